use mathlib.Core.Path.{◌≡◌}
use Prim.Native.Nat.{◌-◌, ◌%◌}
use Rattle.filled.specs.Row.{RowsMade, CellsMade}
use Rattle.filled.proofs.tray.Tray.make_row.Given as goal

abbrev pub invariant-loop-i : goal.invariant-loop-i
invariant-loop-i l = (l.i % 2 ≡ 0) × RowsMade l.self l.work l.p × CellsMade l.self l.work l.p l.i

abbrev pub decreases-loop-i : goal.decreases-loop-i
decreases-loop-i l = l.self.n - l.i
