-- `jobs::plan::file_in` meets its contract: the table of the stops, and the file by it.
use Rattle.std.proofs.lemmas.Result.{err_from_is_err_and}
use Rattle.jobs.proofs.Planning.{left-refused, left-same, not_made, made-file}
use Rattle.jobs.proofs.plan.file_in.Goals as goal

pub returns-in_err-table_from : goal.returns-in_err-table_from
returns-in_err-table_from c =
    let p = err_from_is_err_and c.from_residual.result c.from_residual.ensures.1 in
    rw (p.1, p.2) (left-refused _ _ _ (not_made _ _ _ _ _ _ c.requires _ c.in_err-table_from.ensures))

pub returns : goal.returns
returns c = left-same _ _ _ _ _ (made-file _ _ _ _ _ _ c.requires c.in_ok-table_from.ensures).same c.file_by.ensures
