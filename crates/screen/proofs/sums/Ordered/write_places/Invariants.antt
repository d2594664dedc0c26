use mathlib.Core.Path.{◌≡◌}
use Prim.Native.Nat.{◌^◌, ◌≤◌}
use Rattle.orders.specs.Lent.{order_in}
use Rattle.screen.specs.Local.{Placed}
use Rattle.screen.proofs.sums.Ordered.write_places.Given as goal

abbrev pub invariant-loop-p : goal.invariant-loop-p
invariant-loop-p l = (l.n ≡ 2 ^ l.self.path.k) × (1 ≤ l.p) × Placed l.self.path.k (order_in l.self.path.k l.self.order.now) l.initial.sums l.p l.sums
