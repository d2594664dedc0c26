use Rattle.filled.specs.Row.{RowsMade}
use Rattle.filled.proofs.tray.Tray.make_rows.Given as goal

abbrev pub invariant-loop-p : goal.invariant-loop-p
invariant-loop-p l = RowsMade l.self l.work l.p
