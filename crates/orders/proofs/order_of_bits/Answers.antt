-- `orders::order_of_bits` meets its contract: everything is judged before a stop is written.
use Rattle.orders.proofs.Bits.{are_bytes-first}
use Rattle.orders.proofs.Calls.{done-number, order-judged}
use Rattle.orders.proofs.order_of_bits.Goals as goal

pub invariant_of-write_order : goal.invariant_of-write_order
invariant_of-write_order c = let j = order-judged _ _ _ (done-number _ c.in_ok-judge_string.ensures) in record { small = j.small; long = j.long; octets = are_bytes-first _ c.args.bits.now (λ i. (c.type_inv.bits i).fits) j.long }
