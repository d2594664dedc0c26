use mathlib.Core.Path.{◌≡◌}
use Prim.Native.Nat.{◌^◌}
use Rattle.screen.specs.Times.{times_of}
use Rattle.orders.specs.Lent.{order_in}
use Rattle.screen.specs.Local.{Summed}
use Rattle.screen.proofs.sums.Ordered.add_sides.Given as goal

abbrev pub invariant-loop-v : goal.invariant-loop-v
invariant-loop-v l =
    (l.n ≡ 2 ^ l.self.path.k) × Summed (times_of l.self.path) l.self.path.k (order_in l.self.path.k l.self.order.now) l.initial.sums l.v l.sums
