use Rattle.std.specs.Prelude.{not, eqb}
use mathlib.Core.Path.{◌≡◌}
use Prim.Native.Nat.{◌+◌, ◌^◌, ◌≤◌}
use Rattle.tree.specs.Block.{beside_of}
use Rattle.rows.proofs.Columns.{Columns}
use Rattle.rows.proofs.row.cheapest_four.Given as goal

abbrev pub invariant-loop-j : goal.invariant-loop-j
invariant-loop-j g l =
    (beside_of l.to l.t ≤ l.j) × (l.j ≤ beside_of l.to l.t + 2 ^ l.t) × (l.j-end ≡ beside_of l.to l.t + 2 ^ l.t)
    × Columns (g.C.Costs.costing l.costs) l.place l.t (not (eqb g.row.EARLY 0)) l.to (g.C.Costs.costing l.costs).stops l.j l.totals l.pivots l.held
