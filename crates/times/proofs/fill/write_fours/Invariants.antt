use mathlib.Core.Path.{◌≡◌}
use Prim.Native.Nat.{◌*◌}
use Rattle.base.specs.Lists.{tabulate}
use Rattle.times.specs.Rows.{filled}
use Rattle.times.specs.Table.{entry_of}
use Rattle.times.proofs.fill.write_fours.Given as goal

abbrev pub invariant-loop-four : goal.invariant-loop-four
invariant-loop-four g l =
    l.table ≡ filled l.initial.table l.stops.count (entry_of (tabulate l.stops.count (g.S.StopSource.stop_at l.stops.source))) (4 * l.four)
