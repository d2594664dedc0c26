-- `orders::exchanges::write_exchanged` meets its contract: the order's own string, the exclusive or in it, and the order of that.
use mathlib.Core.Path.{◌≡◌, sym, ap, ◌∙◌}
use mathlib.Core.List.{List, ◌++◌}
use Prim.Native.Nat.{ℕ, ◌^◌, ◌≤◌}
use native.Mathlib.Omega.{arith}
use lib.Bits.{bit_xor}
use lib.ListN.{length, take, drop, length-append, length-drop}
use lib.Seq.{length-take-le}
use Rattle.base.specs.Outcome.{over}
use Rattle.base.proofs.Outcome.{over-at}
use Rattle.base.proofs.Size.{pow-le-1024}
use Rattle.tree.specs.Order.{order_of}
use Rattle.orders.specs.Allowed.{forks_of}
use Rattle.orders.specs.Bits.{byte_count}
use Rattle.orders.specs.Lent.{order_in, forks_in}
use Rattle.orders.specs.Exchange.{exchange, inverted}
use Rattle.orders.proofs.Allowed.{forks_of-gives}
use Rattle.orders.proofs.Size.{byte_count-is}
use Rattle.orders.proofs.Inverted.{string-inverted, string-bytes, inverted-front, length-inverted}
use Rattle.orders.proofs.exchanges.write_exchanged.Goals as goal

-- the order of the exclusive or is the exchanged one
made : (k X G : ℕ) (o out out' : List ℕ) → G ≡ bit_xor (forks_of k o) X → out' ≡ over (order_of k G) out → out' ≡ over (exchange k o X) out
unfolding exchange
made k X G o out out' e f = f ∙ ap (λ (F : ℕ). over (order_of k F) out) e

-- to invert in a part of a buffer is to invert in the buffer
part : (m : ℕ) (front own bits : List ℕ) → m ≤ length own → front ≡ inverted (length (take m own)) (take m own) bits → front ++ drop m own ≡ over (inverted m own bits) own
part m front own bits fits e =
    rw (e, length-take-le m own fits, inverted-front m own bits) (sym (over-at m (inverted m own bits) own (length-inverted m own bits)))

pub invariant_of-write_order : goal.invariant_of-write_order
invariant_of-write_order c =
    let a = c.args in
    let own = c.write_bits.new.bits in
    let count : c.byte_count.result ≡ byte_count (2 ^ a.k) = c.byte_count.ensures ∙ byte_count-is _ c.requires.0.small in
    let fits : c.byte_count.result ≤ length own = omega (arith, count, pow-le-1024 _ c.requires.0.small, c.write_bits.auto.bits) in
    let whole : length (c.invert.new.bits ++ drop c.byte_count.result own) ≡ length own = simp (length-append, length-drop) (omega (arith, fits, length-take-le c.byte_count.result own fits, c.invert.auto.bits)) in
    record {
      small = c.requires.0.small;
      long = omega (arith, whole, count, fits);
      octets = string-bytes a.k _ _ _ _ _ a.bits.now (λ j. (c.type_inv.bits j).fits) c.requires.1 count c.write_bits.ensures (part _ _ _ _ fits c.invert.ensures);
    }

pub returns : goal.returns
returns c =
    let a = c.args in
    let count : c.byte_count.result ≡ byte_count (2 ^ a.k) = c.byte_count.ensures ∙ byte_count-is _ c.requires.0.small in
    let fits : c.byte_count.result ≤ length c.write_bits.new.bits = omega (arith, count, pow-le-1024 _ c.requires.0.small, c.write_bits.auto.bits) in
    let gives = forks_of-gives a.k (order_in a.k a.order.now) c.requires.0.allowed in
    let states : forks_in a.k (c.invert.new.bits ++ drop c.byte_count.result c.write_bits.new.bits) ≡ bit_xor (forks_of a.k (order_in a.k a.order.now)) (forks_in a.k a.bits.now)
    = string-inverted _ _ _ _ _ _ _ (λ j. (c.type_inv.bits j).fits) c.requires.1 count c.write_bits.ensures (part _ _ _ _ fits c.invert.ensures) gives.small in
    made _ _ _ _ _ _ states c.write_order.ensures
