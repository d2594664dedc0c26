use Rattle.std.specs.Prelude.{not, eqb}
use mathlib.Core.Path.{◌≡◌}
use Prim.Native.Nat.{◌+◌, ◌-◌, ◌%◌}
use Rattle.rows.specs.Way.{three_on}
use Rattle.rows.proofs.Made.{Made}
use Rattle.rows.proofs.leaves.leaves.Given as goal

abbrev pub invariant-loop-i : goal.invariant-loop-i
invariant-loop-i g l =
    (l.i % 4 ≡ 0)
    × Made l.place (l.place + 3) (three_on (g.C.Costs.costing l.costs) (not (eqb g.row.EARLY 0)) (not (eqb g.row.EARLY 0)) l.place) 0 (g.C.Costs.costing l.costs).stops l.fn.block.base l.fn.block.size 4 l.i l.initial.totals l.initial.pivots l.totals l.pivots l.count

abbrev pub decreases-loop-i : goal.decreases-loop-i
decreases-loop-i g l = l.fn.block.base + l.fn.block.size - l.i
