-- `signed::answer` meets its contract: both parts are handed on as they are.
use mathlib.Core.Path.{ap, ◌∙◌}
use Rattle.signed.specs.Result.{negative, signed}
use Rattle.signed.proofs.Result.{handed-on}
use Rattle.signed.proofs.answer.Goals as goal

pub returns-in-Ok : goal.returns-in-Ok
unfolding signed
returns-in-Ok c = rw c.in-Ok.is (handed-on c.value.result c.value.type_inv ∙ c.value.ensures)

pub returns-in-Err : goal.returns-in-Err
unfolding signed
returns-in-Err c = rw c.in-Err.is (handed-on c.refusal.result c.refusal.type_inv ∙ c.refusal.ensures ∙ ap negative c.number.ensures)
