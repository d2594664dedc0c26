use mathlib.Core.Path.{◌≡◌}
use Prim.Native.Nat.{◌+◌}
use lib.ListN.{get_or}
use Rattle.planner.specs.Method.{least_of}
use Rattle.planner.proofs.halve.least.Given as goal

abbrev pub invariant-loop-stop : goal.invariant-loop-stop
invariant-loop-stop l = (l.held.total, l.held.stop) ≡ least_of (λ j. get_or l.totals (l.n + j) 0) l.stop
