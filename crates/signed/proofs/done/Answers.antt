-- `signed::done` meets its contract: a call that was done is answered by 0.
use mathlib.Core.Path.{◌∙◌}
use borrow.Author.Rules.{rules}
use Rattle.signed.specs.Result.{nothing}
use Rattle.signed.proofs.Result.{handed-on, made-number}
use Rattle.signed.proofs.done.Goals as goal

pub returns : goal.returns
returns c = handed-on c.answer.result c.answer.type_inv ∙ c.answer.ensures ∙ made-number nothing _ c.args.answered c.map.result (λ x n p. search rules) c.map.ensures.cases
