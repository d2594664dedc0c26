use mathlib.Core.Path.{◌≡◌}
use mathlib.Core.Bool.{true}
use Prim.Native.Nat.{ℕ, ◌-◌, ◌≤◌, ◌<◌}
use Rattle.tree.specs.Neighbour.{may_follow, in_place}
use Rattle.orders.specs.Lent.{order_in}
use Rattle.orders.proofs.judge.LentOrder.is_allowed.Given as goal

abbrev pub invariant-loop-p : goal.invariant-loop-p
invariant-loop-p l =
    (q : ℕ) → 1 ≤ q → q < l.p → may_follow q (in_place (order_in l.self.k l.self.stops.now) (q - 1)) (in_place (order_in l.self.k l.self.stops.now) q) ≡ true
