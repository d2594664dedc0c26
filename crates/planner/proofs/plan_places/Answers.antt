-- `planner::plan_places` meets its contract: the costs come from two tables.
use Prim.Native.Nat.{◌^◌}
use Rattle.tree.specs.Total.{entry}
use Rattle.costs.proofs.Placed.{placed-long}
use Rattle.planner.specs.Places.{placed_plan}
use Rattle.planner.proofs.Judged.{fit-count, fit-few, fit-square, fit-room}
use Rattle.planner.proofs.Places.{places-ok}
use Rattle.planner.proofs.ByTable.{placed-wanted, has-plan}
use Rattle.planner.proofs.Written.{written-best}
use Rattle.planner.proofs.plan_places.Goals as goal

pub unwrap-moves-requires : goal.unwrap-moves-requires
unwrap-moves-requires c =
    let p = places-ok c.in_ok-judge_places.ensures in
    let e = c.stop_count.ensures in
    c.new.ensures.fits.1 (fit-few p.fit e, fit-square p.fit e p.fit.square)

pub unwrap-costs-requires : goal.unwrap-costs-requires
unwrap-costs-requires c =
    let p = places-ok c.in_ok-judge_places.ensures in
    let m = rw c.unwrap-moves.ensures at c.new.ensures.holds in
    c.new-2.ensures.fits.1 (rw m.0 (fit-square p.fit c.stop_count.ensures p.extra))

pub run-requires-clause-room_for : goal.run-requires-clause-room_for
run-requires-clause-room_for c =
    let p = places-ok c.in_ok-judge_places.ensures in
    let m = rw c.unwrap-moves.ensures at c.new.ensures.holds in
    let w = rw c.unwrap-costs.ensures at c.new-2.ensures.holds in
    rw (w.0, m.0) (fit-room p.fit c.stop_count.ensures)

pub run-requires-clause-has_plan : goal.run-requires-clause-has_plan
run-requires-clause-has_plan c =
    let a = c.args in
    let p = places-ok c.in_ok-judge_places.ensures in
    let m = rw c.unwrap-moves.ensures at c.new.ensures.holds in
    let w = rw c.unwrap-costs.ensures at c.new-2.ensures.holds in
    rw (w.0, w.1, w.2, w.3, m.0, m.1, m.2) (has-plan (placed-wanted a.k a.table.now a.places.now (fit-count p.fit c.stop_count.ensures)))

pub returns : goal.returns
returns c =
    let a = c.args in
    let p = places-ok c.in_ok-judge_places.ensures in
    let e = fit-count p.fit c.stop_count.ensures in
    let k = a.k in
    let m = rw c.unwrap-moves.ensures at c.new.ensures.holds in
    let w = rw c.unwrap-costs.ensures at c.new-2.ensures.holds in
    written-best (placed_plan k a.table.now a.places.now) c.run.result e (rw p.same) (placed-long k (entry (2 ^ k) a.table.now) (entry (2 ^ k) a.places.now)) (placed-wanted k a.table.now a.places.now e) (λ s w. s) (rw (w.0, w.1, w.2, w.3, m.0, m.1, m.2) at c.run.ensures)
