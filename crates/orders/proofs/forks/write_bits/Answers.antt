-- `orders::forks::write_bits` meets its contract: after the places passed, `Marks` says which bits are set.
use mathlib.Core.Path.{◌≡◌, sym, ap, subst, ◌∙◌}
use mathlib.Core.List.{List, ◌++◌}
use Prim.Native.Nat.{ℕ, ◌+◌, ◌^◌, ◌<◌, ◌≤◌}
use native.Mathlib.Omega.{arith}
use lib.ListN.{length, get_or, take, drop, replicate, length-replicate, length-append, length-drop}
use lib.Seq.{get_or-take, length-take-le, drop_at}
use Rattle.base.specs.Size.{stop_count}
use Rattle.base.proofs.Outcome.{over-at}
use Rattle.base.proofs.Size.{stop_count-pow}
use Rattle.records.proofs.FieldLaws.{length-bytes_of}
use Rattle.tree.specs.Neighbour.{in_place}
use Rattle.orders.specs.Allowed.{forks_of}
use Rattle.orders.specs.Lent.{order_in, JudgedOrder}
use Rattle.orders.specs.Bits.{byte_count, marked, bit_string}
use Rattle.orders.proofs.Allowed.{below_each, forks_of-gives, Gives}
use Rattle.orders.proofs.Marks.{Marks, marks-none, marks-more, marks-all}
use Rattle.orders.proofs.Size.{byte_count-is}
use Rattle.orders.proofs.forks.write_bits.Goals as goal

-- the set gives the order
gives : (k : ℕ) (order : List ℕ) → JudgedOrder k order → Gives k (order_in k order) (forks_of k (order_in k order))
gives k order j = forks_of-gives k (order_in k order) j.allowed

-- a stop of the order
stop-lt : (k p : ℕ) (order : List ℕ) → JudgedOrder k order → p < 2 ^ k → get_or order p 0 < 2 ^ k
stop-lt k p order j b =
    let l : length (order_in k order) ≡ 2 ^ k = length-take-le (2 ^ k) order j.long in
    rw (← get_or-take (2 ^ k) order p 0 b) (below_each (2 ^ k) (order_in k order) j.below p (omega arith))

-- the buffer once its first bytes are 0
cleared : (k count : ℕ) (bits zeros : List ℕ) → k ≤ 10 → count ≡ byte_count (stop_count k) → byte_count (2 ^ k) ≤ length bits
    → zeros ≡ replicate (length (take count bits)) 0 → zeros ++ drop count bits ≡ replicate (byte_count (2 ^ k)) 0 ++ drop (byte_count (2 ^ k)) bits
cleared k count bits zeros small e long z =
    let c : count ≡ byte_count (2 ^ k) = e ∙ byte_count-is k small in
    rw (z, length-take-le count bits (omega arith), c)

pub loop-p-init : goal.loop-p-init
loop-p-init c =
    let k : ℕ = c.args.k in
    let b : List ℕ = c.args.bits.now in
    let z = cleared k c.byte_count.result b c.fill.new.self c.requires.0.small c.byte_count.ensures c.requires.1 (c.fill.ensures.after (λ y e. e)) in
    let o : List ℕ = order_in k c.args.order.now in
    let m : ℕ = byte_count (2 ^ k) in
    let bytes : (j : ℕ) → get_or (replicate m 0 ++ drop m b) j 0 < 256 = λ j. subst (λ (x : List ℕ). get_or x j 0 < 256) z (c.type_inv.bits j).fits in
    let long : m ≤ length (replicate m 0 ++ drop m b) = simp (length-append, length-replicate, length-drop) (omega arith) in
    rw z (long, marks-none k o (forks_of k o) (gives k c.args.order.now c.requires.0) b bytes)

pub mark_fork-requires : goal.mark_fork-requires
mark_fork-requires c =
    let l = c.loop-p in
    let b : l.p < 2 ^ c.args.k = omega (arith, c.loop-p-test.true, c.stop_count-n.ensures, stop_count-pow c.args.k c.requires.0.small) in
    (c.requires.0.small, l.auto.p, b, omega (arith, c.from.ensures, stop-lt c.args.k l.p c.args.order.now c.requires.0 b), l.invariant.0)

pub loop-p-preserved : goal.loop-p-preserved
loop-p-preserved c =
    let l = c.loop-p in let k : ℕ = c.args.k in
    let p : ℕ = l.p in
    let order : List ℕ = c.args.order.now in
    let o : List ℕ = order_in k order in
    let b : p < 2 ^ k = omega (arith, c.loop-p-test.true, c.stop_count-n.ensures, stop_count-pow k c.requires.0.small) in
    let here : in_place o p ≡ c.from.result = get_or-take (2 ^ k) order p 0 b ∙ sym c.from.ensures in
    let z : marked k p (in_place o p) l.bits ≡ c.mark_fork.new.bits = ap (λ (x : ℕ). marked k p x l.bits) here ∙ sym c.mark_fork.ensures in
    let before : List ℕ = c.fill.new.self ++ drop c.byte_count.result c.args.bits.now in (
      omega (arith, c.mark_fork.auto.bits, l.invariant.0),
      subst (λ (x : List ℕ). Marks k o (forks_of k o) before x (p + 1)) z (marks-more k o (forks_of k o) (gives k order c.requires.0) before l.bits p l.auto.p b l.invariant.0 l.invariant.1),
    )

pub returns : goal.returns
returns c =
    let l = c.loop-p in let k : ℕ = c.args.k in
    let m : ℕ = byte_count (2 ^ k) in
    let b : List ℕ = c.args.bits.now in
    let o : List ℕ = order_in k c.args.order.now in
    let z = cleared k c.byte_count.result b c.fill.new.self c.requires.0.small c.byte_count.ensures c.requires.1 (c.fill.ensures.after (λ y e. e)) in
    let before : List ℕ = c.fill.new.self ++ drop c.byte_count.result b in
    let end : 2 ^ k ≤ l.p = omega (arith, c.loop-p-test.false, c.stop_count-n.ensures, stop_count-pow k c.requires.0.small) in
    marks-all k o (forks_of k o) (gives k c.args.order.now c.requires.0) before l.bits l.p end l.invariant.0 l.invariant.1
    ∙ ap (λ (x : List ℕ). bit_string k (forks_of k o) ++ x) (ap (drop m) z ∙ drop_at (replicate m 0) (drop m b) m (length-replicate {A = ℕ} m 0))
    ∙ sym (over-at m (bit_string k (forks_of k o)) b (length-bytes_of m (forks_of k o)))
