-- `orders::order_total` meets its contract: everything is judged before the sum.
use mathlib.Core.Path.{ap, ◌∙◌}
use Rattle.std.proofs.lemmas.Result.{err_from_is_err_and}
use Rattle.base.specs.Outcome.{done}
use Rattle.orders.proofs.Calls.{total-lent, total-refused}
use Rattle.orders.proofs.order_total.Goals as goal

pub returns-in_err-judge_lent : goal.returns-in_err-judge_lent
returns-in_err-judge_lent c =
    let p = err_from_is_err_and c.from_residual.result c.from_residual.ensures.1 in
    rw (p.1, p.2) (total-refused _ _ _ _ (c.in_err-judge_lent.ensures ∙ ap done (total-lent _ _ c.args.table.now _ c.stop_count-n.ensures)))
