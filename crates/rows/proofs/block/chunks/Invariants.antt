use Rattle.std.specs.Prelude.{not, eqb}
use Prim.Native.Nat.{◌-◌, ◌≤◌}
use Rattle.rows.proofs.Passes.{Chunks}
use Rattle.rows.proofs.block.chunks.Given as goal

abbrev pub invariant-loop-place : goal.invariant-loop-place
invariant-loop-place g l =
    (l.place ≤ l.end) × Chunks (g.C.Costs.costing l.costs) (not (eqb g.row.EARLY 0)) (g.C.Costs.costing l.costs).stops l.from l.block.base l.block.size l.place l.initial.totals l.initial.pivots l.totals l.pivots l.count

abbrev pub decreases-loop-place : goal.decreases-loop-place
decreases-loop-place g l = l.end - l.place
