use mathlib.Core.Path.{◌≡◌}
use Prim.Native.Nat.{◌+◌, ◌-◌, ◌≤◌}
use Rattle.rows.specs.Row.{first_row, Row, Kept}
use Rattle.rows.proofs.row.first_row.Given as goal

abbrev pub invariant-loop-i : goal.invariant-loop-i
invariant-loop-i g l =
    (l.base ≤ l.i) × (l.i ≤ l.base + l.size) × (l.i-end ≡ l.base + l.size) × Kept l.base l.size l.initial.totals l.totals × Kept l.base l.size l.initial.pivots l.pivots
    × Row (l.left + 1) (first_row (g.C.Costs.costing l.costs) l.before l.left) 0 l.base (l.i - l.base) l.totals l.pivots
