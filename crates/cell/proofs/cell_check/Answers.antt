-- `cell::cell_check` meets its contract: the job's answer as a signed number.
use mathlib.Core.Path.{◌∙◌}
use Rattle.signed.proofs.Result.{handed-on}
use Rattle.cell.proofs.Results.{check-answered}
use Rattle.cell.proofs.cell_check.Goals as goal

pub returns : goal.returns
returns c = check-answered _ _ _ _ _ c.check_file.ensures (handed-on _ c.done.type_inv ∙ c.done.ensures)
