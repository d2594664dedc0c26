-- `screen::group_sums` meets its contract: the path, the order, then the sums.
use lib.ListN.{length}
use Rattle.std.proofs.lemmas.Result.{err_from_is_err_and}
use Rattle.screen.proofs.Screen.{room-places, good-path, bad-path, sums-bad-path, sums-refused, order-refused, order-judged, long-both, sums-made}
use Rattle.screen.proofs.group_sums.Goals as goal

pub returns-in_err-path : goal.returns-in_err-path
returns-in_err-path c =
    let a = c.args in
    let p = err_from_is_err_and c.from_residual.result c.from_residual.ensures.1 in
    rw (p.1, p.2) (sums-refused _ _ _ a.sums.now _ (sums-bad-path _ _ a.order.now a.sums.now _ (bad-path _ _ _ _ (room-places _ _) _ c.min.ensures _ c.in_err-path.ensures.path)))

pub returns-in_err-judge_lent : goal.returns-in_err-judge_lent
returns-in_err-judge_lent c =
    let a = c.args in
    let e = c.in_ok-path.ensures in
    let good = good-path _ _ _ _ (room-places (length a.order.now) (length a.sums.now)) _ c.min.ensures c.in_ok-path.path e.path e.same in
    let p = err_from_is_err_and c.from_residual-in_err-judge_lent.result c.from_residual-in_err-judge_lent.ensures.1 in
    rw (p.1, p.2) (sums-refused _ _ _ a.sums.now _ (order-refused _ _ _ a.sums.now _ good _ c.in_err-judge_lent.ensures))

pub make_sums-requires : goal.make_sums-requires
make_sums-requires c =
    let a = c.args in
    let e = c.in_ok-path.ensures in
    let good = good-path _ _ _ _ (room-places (length a.order.now) (length a.sums.now)) _ c.min.ensures c.in_ok-path.path e.path e.same in
    (long-both _ _ a.order.now a.sums.now _ good).1

pub invariant_of-make_sums : goal.invariant_of-make_sums
invariant_of-make_sums c =
    let a = c.args in
    let e = c.in_ok-path.ensures in
    let good = good-path _ _ _ _ (room-places (length a.order.now) (length a.sums.now)) _ c.min.ensures c.in_ok-path.path e.path e.same in
    record { judged = order-judged _ _ _ a.sums.now _ good c.in_ok-judge_lent.ensures }

pub returns : goal.returns
returns c =
    let a = c.args in
    let e = c.in_ok-path.ensures in
    let good = good-path _ _ _ _ (room-places (length a.order.now) (length a.sums.now)) _ c.min.ensures c.in_ok-path.path e.path e.same in
    sums-made _ _ _ _ _ good _ (order-judged _ _ _ a.sums.now _ good c.in_ok-judge_lent.ensures) c.make_sums.ensures
