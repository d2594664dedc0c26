use mathlib.Core.Path.{◌≡◌}
use mathlib.Core.List.{List}
use Prim.Native.Nat.{ℕ, ◌*◌, ◌/◌}
use Rattle.base.specs.Lists.{tabulate}
use Rattle.times.specs.Rows.{filled}
use Rattle.times.specs.Table.{entry_of}
use Rattle.times.proofs.fill.write_rest.Given as goal

abbrev pub invariant-loop-from : goal.invariant-loop-from
invariant-loop-from g l =
    (t : List ℕ) → l.initial.table ≡ filled t l.stops.count (entry_of (tabulate l.stops.count (g.S.StopSource.stop_at l.stops.source))) (4 * (l.stops.count / 4)) → l.table ≡ filled t l.stops.count (entry_of (tabulate l.stops.count (g.S.StopSource.stop_at l.stops.source))) l.from
