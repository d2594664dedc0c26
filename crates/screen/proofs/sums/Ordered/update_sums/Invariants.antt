use mathlib.Core.Path.{◌≡◌}
use Prim.Native.Nat.{◌^◌, ◌<◌}
use Rattle.screen.specs.Times.{times_of}
use Rattle.orders.specs.Lent.{order_in}
use Rattle.group_sums.specs.Between.{between}
use Rattle.screen.specs.Local.{Updated}
use Rattle.screen.proofs.sums.Ordered.update_sums.Given as goal

abbrev pub invariant-loop-u : goal.invariant-loop-u
invariant-loop-u l =
    (l.n ≡ 2 ^ l.self.path.k) × (l.u < 2 ^ l.self.path.k) × (0 < l.u → l.at ≡ between l.self.path.k (order_in l.self.path.k l.self.order.now) l.u) × Updated (times_of l.self.path) l.self.path.k (order_in l.self.path.k l.self.order.now) l.initial.sums l.u l.sums

abbrev pub decreases-loop-u : goal.decreases-loop-u
decreases-loop-u l = l.u
