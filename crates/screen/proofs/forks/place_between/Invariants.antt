use mathlib.Core.Path.{◌≡◌}
use Prim.Native.Nat.{◌^◌, ◌≤◌}
use Rattle.orders.specs.Lent.{order_in}
use Rattle.group_sums.specs.Between.{between}
use Rattle.screen.proofs.forks.place_between.Given as goal

abbrev pub invariant-loop-p : goal.invariant-loop-p
invariant-loop-p l = (l.n ≡ 2 ^ l.k) × (l.p ≤ between l.k (order_in l.k l.order) l.v)
