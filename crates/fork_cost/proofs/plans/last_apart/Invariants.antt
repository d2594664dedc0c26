use mathlib.Core.Path.{◌≡◌}
use lib.ListN.{length}
use Rattle.fork_cost.specs.Cost.{last_apart}
use Rattle.fork_cost.proofs.plans.last_apart.Given as goal

abbrev pub invariant-loop-p : goal.invariant-loop-p
invariant-loop-p l = last_apart l.order l.other (length l.order) ≡ last_apart l.order l.other l.p
