use mathlib.Core.Path.{◌≡◌}
use lib.Dec.{leb}
use Rattle.walks.specs.Rows.{loop}
use Rattle.filled.specs.Row.{unreached, standing}
use Rattle.filled.proofs.walk.last_stop.Given as goal

abbrev pub invariant-loop-stop : goal.invariant-loop-stop
invariant-loop-stop l = (l.held.total, l.held.stop) ≡ loop unreached (leb 0) (standing l.row) (λ j. j) l.stop
