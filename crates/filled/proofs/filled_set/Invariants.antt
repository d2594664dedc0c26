use mathlib.Core.Path.{◌≡◌}
use Rattle.filled.specs.Filled.{filled_in}
use Rattle.filled.specs.Row.{set_of}
use Rattle.filled.proofs.filled_set.Given as goal

abbrev pub invariant-loop-i : goal.invariant-loop-i
invariant-loop-i l = l.set ≡ set_of (filled_in l.empties) l.i
