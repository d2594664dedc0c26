-- `cell::cell_plan` meets its contract: the job's answer as a signed number.
use mathlib.Core.Path.{◌∙◌}
use Rattle.signed.proofs.Result.{handed-on}
use Rattle.cell.proofs.Results.{plan-answered}
use Rattle.cell.proofs.cell_plan.Goals as goal

pub returns : goal.returns
returns c = plan-answered _ _ _ _ _ c.plan_file.ensures _ (handed-on _ c.answer.type_inv ∙ c.answer.ensures)
