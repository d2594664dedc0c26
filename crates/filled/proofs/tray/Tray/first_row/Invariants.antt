use Rattle.filled.specs.Row.{CellsMade}
use Rattle.filled.proofs.tray.Tray.first_row.Given as goal

abbrev pub invariant-loop-i : goal.invariant-loop-i
invariant-loop-i l = CellsMade l.self l.total-items 0 l.i
