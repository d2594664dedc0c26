-- `planner::tour` meets its contract.
use Rattle.planner.proofs.Judged.{fit-count, fit-square, fit-room}
use Rattle.planner.proofs.TourCalls.{tour-ok}
use Rattle.planner.proofs.Written.{written-tour}
use Rattle.planner.proofs.tour.Goals as goal

pub whole_tour-requires : goal.whole_tour-requires
whole_tour-requires c =
    let t = tour-ok c.in_ok-judge_tour.ensures in
    let e = c.stop_count-n.ensures in
    (fit-room t.fit e, fit-square t.fit e t.fit.square)

pub returns : goal.returns
returns c =
    let t = tour-ok c.in_ok-judge_tour.ensures in
    written-tour (fit-count t.fit c.stop_count-n.ensures) (rw t.same) c.whole_tour.ensures
