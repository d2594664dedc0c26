use mathlib.Core.Path.{◌≡◌}
use Prim.Native.Nat.{◌^◌, ◌≤◌}
use Rattle.screen.specs.Times.{times_of}
use Rattle.orders.specs.Lent.{order_in}
use Rattle.screen.specs.Local.{Tested}
use Rattle.screen.proofs.sums.Ordered.sums_agree.Given as goal

abbrev pub invariant-loop-p : goal.invariant-loop-p
invariant-loop-p l =
    (l.n ≡ 2 ^ l.self.path.k) × (1 ≤ l.p) × Tested (times_of l.self.path) l.self.path.k (order_in l.self.path.k l.self.order.now) l.p l.sums
