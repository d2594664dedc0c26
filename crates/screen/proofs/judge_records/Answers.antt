-- `screen::judge_records` meets its contract: k, the lengths and the order, then the sums.
use mathlib.Core.Path.{◌≡◌, sym, ap, ◌∙◌}
use Prim.Native.Nat.{◌^◌, ◌≤◌}
use lib.ListN.{length}
use Rattle.std.proofs.lemmas.Result.{err_from_is_err_and}
use Rattle.base.specs.Outcome.{gives, done}
use Rattle.base.proofs.Outcome.{done-good}
use Rattle.orders.specs.Lent.{JudgedOrder}
use Rattle.screen.specs.Times.{times_of}
use Rattle.screen.proofs.Records.{order_judged, records-fit, records-refused, records-order, records-wrong, records-good}
use Rattle.screen.proofs.judge_records.Goals as goal

pub returns-in_err-judge_lent : goal.returns-in_err-judge_lent
returns-in_err-judge_lent c =
    let a = c.args in
    let t = times_of a.path in
    let p = err_from_is_err_and c.from_residual.result c.from_residual.ensures.1 in
    rw (p.1, p.2) (sym (ap done (records-refused t _ _ a.sums.now _ (c.in_err-judge_lent.ensures ∙ ap done (records-fit t a.path.k a.order.now a.sums.now _ c.stop_count.ensures)))))

pub sums_agree-requires : goal.sums_agree-requires
sums_agree-requires c =
    let a = c.args in
    let t = times_of a.path in
    let judged : gives tt ≡ done (order_judged t a.path.k a.order.now a.sums.now) = c.in_ok-judge_lent.ensures ∙ ap done (records-fit t a.path.k a.order.now a.sums.now _ c.stop_count.ensures) in
    (records-order t _ _ a.sums.now (done-good _ judged)).1

pub invariant_of-sums_agree : goal.invariant_of-sums_agree
invariant_of-sums_agree c =
    let a = c.args in
    let t = times_of a.path in
    let judged : gives tt ≡ done (order_judged t a.path.k a.order.now a.sums.now) = c.in_ok-judge_lent.ensures ∙ ap done (records-fit t a.path.k a.order.now a.sums.now _ c.stop_count.ensures) in
    record { judged = (records-order t _ _ a.sums.now (done-good _ judged)).0 }

pub returns-then-not-sums_agree : goal.returns-then-not-sums_agree
returns-then-not-sums_agree c =
    let a = c.args in
    let t = times_of a.path in
    let judged : gives tt ≡ done (order_judged t a.path.k a.order.now a.sums.now) = c.in_ok-judge_lent.ensures ∙ ap done (records-fit t a.path.k a.order.now a.sums.now _ c.stop_count.ensures) in
    let g : JudgedOrder a.path.k a.order.now × (2 ^ a.path.k ≤ length a.sums.now) = records-order t _ _ a.sums.now (done-good _ judged) in
    sym (ap done (records-wrong t _ _ _ g.0 g.1 (sym c.sums_agree.ensures ∙ c.if-not-sums_agree.true)))

pub returns : goal.returns
returns c =
    let a = c.args in
    let t = times_of a.path in
    let judged : gives tt ≡ done (order_judged t a.path.k a.order.now a.sums.now) = c.in_ok-judge_lent.ensures ∙ ap done (records-fit t a.path.k a.order.now a.sums.now _ c.stop_count.ensures) in
    let g : JudgedOrder a.path.k a.order.now × (2 ^ a.path.k ≤ length a.sums.now) = records-order t _ _ a.sums.now (done-good _ judged) in
    sym (ap done (records-good t _ _ _ g.0 g.1 (sym c.sums_agree.ensures ∙ c.if-not-sums_agree.false)))
