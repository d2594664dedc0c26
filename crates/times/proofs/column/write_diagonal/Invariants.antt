use mathlib.Core.Path.{◌≡◌}
use Rattle.times.specs.Columns.{set_each, on_diagonal}
use Rattle.times.proofs.column.write_diagonal.Given as goal

abbrev pub invariant-loop-r : goal.invariant-loop-r
invariant-loop-r l = l.block ≡ set_each l.initial.block (on_diagonal 0 l.n l.from) (λ i. 0) l.r
