use mathlib.Core.Path.{◌≡◌}
use Rattle.times.specs.Columns.{set_each, in_column, times_from}
use Rattle.times.proofs.column.write_column.Given as goal

abbrev pub invariant-loop-r : goal.invariant-loop-r
invariant-loop-r l = l.block ≡ set_each l.initial.block (in_column 0 l.n l.to) (times_from l.fn.four l.stop) l.r
