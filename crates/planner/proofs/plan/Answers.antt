-- `planner::plan` meets its contract: the costs come from a table.
use Prim.Native.Nat.{◌^◌}
use Rattle.tree.specs.Total.{entry}
use Rattle.tree.proofs.Open.{length-wanted}
use Rattle.planner.specs.Plan.{wanted_plan}
use Rattle.planner.proofs.Judged.{judged-ok, fit-count, fit-few, fit-square, fit-room}
use Rattle.planner.proofs.ByTable.{table-plan, has-plan}
use Rattle.planner.proofs.Written.{written-best, answers-plan}
use Rattle.planner.proofs.plan.Goals as goal

pub unwrap-costs-requires : goal.unwrap-costs-requires
unwrap-costs-requires c =
    let f = judged-ok c.in_ok-judge_lengths.ensures in
    let e = c.stop_count.ensures in
    c.new.ensures.fits.1 (fit-few f e, fit-square f e f.square)

pub run-requires-clause-room_for : goal.run-requires-clause-room_for
run-requires-clause-room_for c =
    let f = judged-ok c.in_ok-judge_lengths.ensures in
    let m = rw c.unwrap-costs.ensures at c.new.ensures.holds in
    rw m.0 (fit-room f c.stop_count.ensures)

pub run-requires-clause-has_plan : goal.run-requires-clause-has_plan
run-requires-clause-has_plan c =
    let f = judged-ok c.in_ok-judge_lengths.ensures in
    let m = rw c.unwrap-costs.ensures at c.new.ensures.holds in
    rw (m.0, m.1, m.2) (has-plan (table-plan c.args.k c.args.table.now (fit-count f c.stop_count.ensures)))

pub returns : goal.returns
returns c =
    let f = judged-ok c.in_ok-judge_lengths.ensures in
    let e = fit-count f c.stop_count.ensures in
    let k = c.args.k in
    let m = rw c.unwrap-costs.ensures at c.new.ensures.holds in
    written-best (wanted_plan k c.args.table.now) c.run.result e (rw f.same) (length-wanted k (entry (2 ^ k) c.args.table.now)) (table-plan k c.args.table.now e) (answers-plan k (wanted_plan k c.args.table.now) c.run.result) (rw (m.0, m.1, m.2) at c.run.ensures)
