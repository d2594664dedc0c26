use mathlib.Core.Path.{◌≡◌}
use mathlib.Core.List.{◌++◌}
use lib.ListN.{drop}
use Rattle.base.specs.Lists.{tabulate}
use Rattle.times.specs.Table.{entry_of}
use Rattle.times.proofs.fill.write_row.Given as goal

abbrev pub invariant-loop-to : goal.invariant-loop-to
invariant-loop-to g l =
    l.row ≡ tabulate l.to (entry_of (tabulate l.stops.count (g.S.StopSource.stop_at l.stops.source)) l.from) ++ drop l.to l.initial.row
