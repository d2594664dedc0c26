use mathlib.Core.Path.{◌≡◌}
use Prim.Native.Nat.{◌+◌, ◌*◌}
use lib.Dec.{leb}
use Rattle.walks.specs.Rows.{loop}
use Rattle.filled.specs.Row.{unreached, through}
use Rattle.filled.proofs.tray.Tray.cheapest_two.Given as goal

abbrev pub invariant-loop-from : goal.invariant-loop-from
invariant-loop-from l =
    (l.at ≡ l.from * l.self.n + l.to)
    × ((l.held.one.total, l.held.one.stop) ≡ loop unreached (leb l.fn.group.first) (through l.self l.row l.to) (λ j. j) l.from)
    × ((l.held.other.total, l.held.other.stop) ≡ loop unreached (leb l.fn.group.first) (through l.self l.row (l.to + 1)) (λ j. j) l.from)
