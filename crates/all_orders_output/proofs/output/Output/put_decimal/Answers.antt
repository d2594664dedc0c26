-- `all_orders_output::output::Output::put_decimal` meets its contract: the library's digits are those of the definition.
use mathlib.Core.Path.{◌≡◌, ap, ◌∙◌}
use mathlib.Core.List.{List, ◌++◌}
use Prim.Native.Nat.{ℕ}
use Rattle.all_orders_output.specs.Decimal.{decimal}
use Rattle.all_orders_output.specs.Local.{text_of}
use Rattle.all_orders_output.proofs.Decimal.{same-decimal}
use Rattle.all_orders_output.proofs.output.Output.put_decimal.Goals as goal

pub put-requires : goal.put-requires
put-requires c =
    let e : c.as_bytes.result.now ≡ decimal c.args.number = c.as_bytes.ensures.value ∙ c.format.ensures.text ∙ same-decimal c.args.number c.ranges.number.fits in
    rw e c.requires

pub returns : goal.returns
returns c =
    let e : c.as_bytes.result.now ≡ decimal c.args.number = c.as_bytes.ensures.value ∙ c.format.ensures.text ∙ same-decimal c.args.number c.ranges.number.fits in
    c.put.ensures ∙ ap (λ (v : List ℕ). text_of c.args.self.now ++ v) e
