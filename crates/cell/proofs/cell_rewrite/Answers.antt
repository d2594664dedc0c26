-- `cell::cell_rewrite` meets its contract: the job's answer as a signed number.
use mathlib.Core.Path.{◌∙◌}
use Rattle.signed.proofs.Result.{handed-on}
use Rattle.cell.proofs.Results.{rewrite-answered}
use Rattle.cell.proofs.cell_rewrite.Goals as goal

pub returns : goal.returns
returns c = rewrite-answered _ _ _ _ _ _ _ c.rewrite_file.ensures (handed-on _ c.answer.type_inv ∙ c.answer.ensures)
