-- `all_orders_output::text_for` meets its contract: the head, the program's own test of k, and then the stops.
use mathlib.Core.Path.{◌≡◌, sym, ap, ◌∙◌}
use Rattle.std.proofs.Common.{Err, rules}
use Rattle.base.specs.Outcome.{giving, said}
use Rattle.path.proofs.JudgeLaws.{judged-head, judged-test, judged-rest}
use Rattle.all_orders_output.specs.Text.{all_orders}
use Rattle.all_orders_output.specs.Output.{program_highest, few_enough}
use Rattle.all_orders_output.specs.Local.{text_of, orders_after_head}
use Rattle.all_orders_output.proofs.Printing.{few-passes, many-fails, text-after}
use Rattle.all_orders_output.proofs.text_for.Goals as goal

pub returns-in_err-opened : goal.returns-in_err-opened
returns-in_err-opened c =
    let handed : c.from_residual.result ≡ Err c.in_err-opened.field-0.0 = search rules in
    ap (λ r. giving text_of (said r)) handed ∙ sym (ap (giving all_orders) (judged-head c.args.path.now program_highest few_enough _ c.in_err-opened.ensures.head))

pub returns-then-opened-gt-PRINT_MAX_K : goal.returns-then-opened-gt-PRINT_MAX_K
returns-then-opened-gt-PRINT_MAX_K c =
    let p = c.in_ok-opened.opened in
    let e = c.in_ok-opened.ensures in
    sym (ap (giving all_orders) (judged-test c.args.path.now program_highest few_enough p e.head e.same _ (many-fails p.k c.if-opened-gt-PRINT_MAX_K.true)))

pub returns : goal.returns
returns c =
    let p = c.in_ok-opened.opened in
    let e = c.in_ok-opened.ensures in
    c.orders_of.ensures ∙ ap (λ s. orders_after_head s p.version p.k) e.same
    ∙ text-after c.args.path.now p.version p.k (judged-rest c.args.path.now program_highest few_enough p e.head e.same (few-passes p.k c.if-opened-gt-PRINT_MAX_K.false))
