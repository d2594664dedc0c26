-- `exports::ffi_draw` meets its contract: a draw's verdict is what it answers.
use mathlib.Core.Path.{ap, ◌∙◌}
use borrow.Author.Rules.{rules}
use Rattle.path.specs.Draw.{Draw}
use Rattle.signed.specs.Result.{itself, signed}
use Rattle.signed.proofs.Result.{handed-on}
use Rattle.exports.specs.Values.{verdict, drawn_verdict}
use Rattle.exports.proofs.Exports.{drawn-verdict}
use Rattle.exports.proofs.ffi_draw.Goals as goal

pub returns : goal.returns
returns c =
    handed-on _ c.answer_by.type_inv
    ∙ c.answer_by.ensures drawn_verdict (λ x n p. search rules)
    ∙ drawn-verdict c.draw_number.result
    ∙ ap (λ (d : Draw). signed itself (verdict d)) c.draw_number.ensures
