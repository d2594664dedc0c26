-- `path_plan::plan_path` meets its contract: the head, the lengths, the table and then the planner.
use Rattle.std.proofs.lemmas.Result.{err_from_is_err_and}
use Rattle.path.proofs.JudgeLaws.{judged-head}
use Rattle.path_plan.proofs.PathPlan.{path-refused, lengths-refused, table-refused, table-planned, never-refused}
use Rattle.path_plan.proofs.plan_path.Goals as goal

pub returns-in_err-path : goal.returns-in_err-path
returns-in_err-path c =
    let p = err_from_is_err_and c.from_residual.result c.from_residual.ensures.1 in
    rw (p.1, p.2) (path-refused _ _ _ _ _ _ _ (judged-head _ _ _ _ c.in_err-path.ensures.head))

pub returns-in_err-judge_lengths : goal.returns-in_err-judge_lengths
returns-in_err-judge_lengths c =
    let a = c.args in
    let h = c.in_ok-path.ensures in
    let p = err_from_is_err_and c.from_residual-in_err-judge_lengths.result c.from_residual-in_err-judge_lengths.ensures.1 in
    rw (p.1, p.2) (path-refused _ _ _ _ _ _ _ (lengths-refused _ _ a.table.now a.order.now a.totals.now a.pivots.now c.in_ok-path.path h.head h.same _ c.in_err-judge_lengths.ensures))

pub returns-in_err-table_from : goal.returns-in_err-table_from
returns-in_err-table_from c =
    let h = c.in_ok-path.ensures in
    let p = err_from_is_err_and c.from_residual-in_err-table_from.result c.from_residual-in_err-table_from.ensures.1 in
    rw (p.1, p.2) (table-refused _ _ _ _ _ _ c.in_ok-path.path h.head h.same c.in_ok-judge_lengths.ensures _ _ c.in_err-table_from.ensures)

pub returns-in_err-planned : goal.returns-in_err-planned
returns-in_err-planned c =
    let h = c.in_ok-path.ensures in
    never-refused _ _ _ _ _ _ c.in_ok-path.path h.head h.same c.in_ok-judge_lengths.ensures _ _ _ _ _ c.in_ok-table_from.ensures c.in_err-planned.ensures

pub returns : goal.returns
returns c =
    let h = c.in_ok-path.ensures in
    table-planned _ _ _ _ _ _ c.in_ok-path.path h.head h.same c.in_ok-judge_lengths.ensures _ _ _ _ _ c.in_ok-table_from.ensures c.in_ok-planned.ensures
