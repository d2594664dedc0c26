-- `test_support::text::field` meets its contract: the parts of a split are the fields.
use Rattle.std.proofs.Common.{◌≡◌, eqb, [], ap, ◌∙◌, rules, tests}
use Rattle.std.proofs.lemmas.Iterator.Consumers.{nth_from_yields_List}
use Rattle.std.proofs.lemmas.Iterator.Splits.{YieldsList-from_slice_split}
use Rattle.std.specs.List.{slice_get, slice_split}
use Rattle.std.specs.Option.{unwrap_or, option_map}
use Rattle.test_support.proofs.Fields.{part_field, unwrap_now}
use Rattle.test_support.proofs.text.field.Goals as goal

pub returns : goal.returns
returns c =
    let is : option_map (λ x. x.now) c.nth.result ≡ slice_get (slice_split (λ b. eqb b c.args.separator) c.args.text.now) c.args.i =
    nth_from_yields_List _ _ _ c.nth.ensures.ran (YieldsList-from_slice_split _ (λ b. eqb b c.args.separator) c.args.text.now c.split.ensures.rest c.split.ensures.done c.split.ensures.closure (λ x r q k. search (rules, tests))) in
    ap (λ r. r.now) c.unwrap_or.ensures ∙ unwrap_now c.nth.result _ ∙ ap (λ r. unwrap_or r []) is ∙ part_field c.args.separator c.args.text.now c.args.i
