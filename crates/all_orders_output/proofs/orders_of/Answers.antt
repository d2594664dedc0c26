-- `all_orders_output::orders_of` meets its contract: the table of the stops and the lines by it, or the refusal of the stops.
use mathlib.Core.Path.{◌≡◌, ap, ◌∙◌}
use Prim.Native.Nat.{ℕ, ◌*◌}
use lib.Seq.{length-take-le}
use Rattle.std.proofs.Common.{Err, rules}
use Rattle.base.specs.Outcome.{gives, giving, said}
use Rattle.all_orders_output.specs.Local.{text_of}
use Rattle.all_orders_output.proofs.Printing.{not_made, made-lines}
use Rattle.all_orders_output.proofs.Sizes.{few-stops}
use Rattle.all_orders_output.proofs.orders_of.Goals as goal

pub returns-in_err-table_from : goal.returns-in_err-table_from
returns-in_err-table_from c =
    let handed : c.from_residual.result ≡ Err c.in_err-table_from.field-0.0 = search rules in
    let few = few-stops c.args.path.k _ c.requires c.stop_count-n.ensures in
    let long = length-take-le _ _ few.square ∙ ap (λ (n : ℕ). n * n) few.stops in
    ap (λ r. giving text_of (said r)) handed ∙ not_made c.args.path.bytes.now c.args.path.version c.args.path.k _ _ c.requires long _ c.in_err-table_from.ensures

pub returns : goal.returns
returns c =
    let few = few-stops c.args.path.k _ c.requires c.stop_count-n.ensures in
    let long = length-take-le _ _ few.square ∙ ap (λ (n : ℕ). n * n) few.stops in
    ap gives c.lines.ensures ∙ (made-lines c.args.path.bytes.now c.args.path.version c.args.path.k _ _ c.requires long c.in_ok-table_from.ensures).same
