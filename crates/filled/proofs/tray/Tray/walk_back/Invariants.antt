use Rattle.filled.specs.Walk.{Walking}
use Rattle.filled.proofs.tray.Tray.walk_back.Given as goal

abbrev pub invariant-loop-at : goal.invariant-loop-at
invariant-loop-at l = Walking l.self l.initial.list l.list l.p l.i l.at
