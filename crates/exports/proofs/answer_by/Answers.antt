-- `exports::answer_by` meets its contract: the number that is made of a value is the one that is answered.
use mathlib.Core.Path.{◌∙◌}
use Rattle.signed.proofs.Result.{handed-on, made-number}
use Rattle.exports.proofs.answer_by.Goals as goal

pub returns : goal.returns
returns g c value made =
    handed-on c.answer.result c.answer.type_inv ∙ c.answer.ensures ∙ made-number value _ c.args.answered c.map.result made c.map.ensures.cases
