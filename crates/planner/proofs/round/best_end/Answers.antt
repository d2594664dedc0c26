-- `planner::round::best_end` meets its contract. The loop's invariant: the best of the last stops before this one is held.
use mathlib.Core.Path.{refl, ◌∙◌}
use native.Mathlib.Omega.{arith}
use Rattle.planner.proofs.Tours.{tour-pos, held_none, held_more}
use Rattle.planner.proofs.round.best_end.Goals as goal

pub loop-last-init : goal.loop-last-init
loop-last-init c = let q = c.requires in (omega arith, q.1, q.2, held_none refl refl (tour-pos q.0))

pub loop-last-preserved : goal.loop-last-preserved
loop-last-preserved c =
    let inv = c.loop-last.invariant in
    (omega (arith, c.loop-last-test.true), c.closed_total.auto.totals ∙ inv.1, c.closed_total.auto.pivots ∙ inv.2, held_more inv.3 c.closed_total.ensures c.loop-last-test.true c.keep-held.ensures)
