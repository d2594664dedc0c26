use mathlib.Core.Path.{◌≡◌}
use mathlib.Core.List.{◌++◌}
use lib.ListN.{drop}
use Rattle.base.specs.Lists.{tabulate}
use Rattle.tree.specs.Order.{stop_in}
use Rattle.orders.specs.Lent.{forks_in}
use Rattle.orders.proofs.forks.ForkString.write_order.Given as goal

abbrev pub invariant-loop-p : goal.invariant-loop-p
invariant-loop-p l = l.stop-items ≡ tabulate l.p (stop_in l.self.k (forks_in l.self.k l.self.bytes.now)) ++ drop l.p l.initial.stop-items
