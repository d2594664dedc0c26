-- `orders::exchanges::judge_exchange` meets its contract: k, the lengths and the order, then the set.
use mathlib.Core.Path.{◌≡◌, ap, ◌∙◌}
use Rattle.base.specs.Outcome.{done, gives}
use Rattle.orders.proofs.Bits.{are_bytes-first}
use Rattle.orders.proofs.Calls.{done-number}
use Rattle.orders.proofs.Exchanged.{order_judged, exchange-fits, exchange-order}
use Rattle.orders.proofs.exchanges.judge_exchange.Goals as goal

pub invariant_of-only_forks : goal.invariant_of-only_forks
invariant_of-only_forks c =
    let a = c.args in
    let ok : gives tt ≡ done (order_judged a.k a.order.now a.bits.now a.room) = c.in_ok-judge_lent.ensures ∙ ap done (exchange-fits _ _ c.args.bits.now _ _ c.long_enough.ensures) in
    let j = exchange-order a.k a.order.now a.bits.now a.room (done-number _ ok) in record { small = j.0.small; long = j.1; octets = are_bytes-first _ a.bits.now (λ i. (c.type_inv.bits i).fits) j.1 }
