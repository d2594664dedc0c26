use mathlib.Core.Path.{◌≡◌}
use Prim.Native.Nat.{◌+◌}
use Rattle.times.specs.Time.{time}
use Rattle.times.specs.Columns.{written_rows}
use Rattle.times.proofs.fill.write_four.Given as goal

abbrev pub invariant-loop-to : goal.invariant-loop-to
invariant-loop-to g l =
    l.block ≡ written_rows l.initial.block 0 l.stops.count (λ r j. time (g.S.StopSource.stop_at l.stops.source (l.from + r)) (g.S.StopSource.stop_at l.stops.source j)) l.to 4
