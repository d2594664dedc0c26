-- `jobs::plan::file_by` meets its contract: the planner's order is written.
use mathlib.Core.Path.{refl}
use Rattle.jobs.proofs.Planning.{table-filed, never-refused}
use Rattle.jobs.proofs.plan.file_by.Goals as goal

pub returns-in_err-plan : goal.returns-in_err-plan
returns-in_err-plan c = never-refused _ _ _ _ _ _ _ _ _ _ c.requires refl refl refl c.in_err-plan.ensures

pub returns : goal.returns
returns c = table-filed _ _ _ _ _ _ _ _ _ _ _ _ c.requires refl refl refl c.in_ok-plan.ensures c.write_order_file.ensures
