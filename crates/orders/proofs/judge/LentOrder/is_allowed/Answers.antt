-- `orders::judge::LentOrder::is_allowed` meets its contract: Theorem 7's test held at the places passed.
use mathlib.Core.Path.{◌≡◌, sym, ◌∙◌}
use mathlib.Core.Bool.{Bool, true}
use mathlib.Core.List.{List}
use Prim.Native.Nat.{ℕ, ◌-◌, ◌^◌, ◌≤◌, ◌<◌}
use native.Mathlib.Omega.{arith}
use lib.ListN.{get_or}
use lib.Seq.{get_or-take, length-take-le}
use Rattle.tree.specs.Neighbour.{may_follow, in_place}
use Rattle.orders.specs.Lent.{order_in}
use Rattle.orders.proofs.Same.{more}
use Rattle.orders.proofs.Allowed.{passes-allowed, fails-not}
use Rattle.orders.proofs.judge.LentOrder.is_allowed.Goals as goal

-- what the test of place p says of the first n numbers
tested : (k p : ℕ) (order : List ℕ) (r : Bool) → 1 ≤ p → p < 2 ^ k → r ≡ may_follow p (get_or order (p - 1) 0) (get_or order p 0)
    → may_follow p (in_place (order_in k order) (p - 1)) (in_place (order_in k order) p) ≡ r
tested k p order r h l g = sym (g ∙ rw (get_or-take (2 ^ k) order p 0 l, get_or-take (2 ^ k) order (p - 1) 0 (omega arith)))

pub returns-then-not-may_follow : goal.returns-then-not-may_follow
returns-then-not-may_follow c =
    let k : ℕ = c.args.self.k in let order : List ℕ = c.args.self.stops.now in
    let first : 1 ≤ c.loop-p.p = c.loop-p.auto.p in
    let last : c.loop-p.p < 2 ^ k = omega (arith, c.loop-p-test.true, c.requires.0) in
    sym (fails-not k (order_in k order) c.loop-p.p first last (tested k c.loop-p.p order _ first last c.may_follow.ensures ∙ c.if-not-may_follow.true))

pub loop-p-preserved : goal.loop-p-preserved
loop-p-preserved c =
    let k : ℕ = c.args.self.k in let order : List ℕ = c.args.self.stops.now in
    let first : 1 ≤ c.loop-p.p = c.loop-p.auto.p in
    let last : c.loop-p.p < 2 ^ k = omega (arith, c.loop-p-test.true, c.requires.0) in
    let o : List ℕ = order_in k order in
    more (λ q. may_follow q (in_place o (q - 1)) (in_place o q) ≡ true) c.loop-p.p c.loop-p.invariant
    (tested k c.loop-p.p order _ first last c.may_follow.ensures ∙ c.if-not-may_follow.false)

pub returns : goal.returns
returns c =
    let k : ℕ = c.args.self.k in let order : List ℕ = c.args.self.stops.now in
    sym (passes-allowed k (order_in k order) (length-take-le (2 ^ k) order c.args.self.long) c.requires.1
    (λ p a b. c.loop-p.invariant p a (omega (arith, b, c.loop-p-test.false, c.requires.0))))
