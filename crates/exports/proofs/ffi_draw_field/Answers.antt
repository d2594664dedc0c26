-- `exports::ffi_draw_field` meets its contract: the field of the stop that was drawn, or of the stop of zeros.
use mathlib.Core.Path.{sym, ◌∙◌}
use Rattle.signed.proofs.Result.{handed-on}
use Rattle.exports.proofs.Exports.{zero-field, drawn-field}
use Rattle.exports.proofs.ffi_draw_field.Goals as goal

pub returns-in-Some : goal.returns-in-Some
returns-in-Some c =
    handed-on _ c.stop_field.type_inv ∙ c.stop_field.ensures ∙ drawn-field c.args.field _ _ _ c.draw_number.ensures c.in-Some.ensures

pub returns-in-None : goal.returns-in-None
returns-in-None c = sym (zero-field c.args.field) ∙ drawn-field c.args.field _ _ _ c.draw_number.ensures c.in-None.ensures
