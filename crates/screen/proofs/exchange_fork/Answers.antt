-- `screen::exchange_fork` meets its contract: the path, the records and the fork, then the exchange.
use lib.ListN.{length}
use Rattle.std.proofs.lemmas.Result.{err_from_is_err_and}
use Rattle.base.proofs.Outcome.{done-good, done-refused}
use mathlib.Core.Path.{◌∙◌}
use Rattle.screen.proofs.Records.{exchange-judged}
use Rattle.screen.proofs.Screen.{room-places, good-path, bad-path, fork-bad-path, by_bytes, fork-refused, fork-made}
use Rattle.screen.proofs.exchange_fork.Goals as goal

pub returns-in_err-path : goal.returns-in_err-path
returns-in_err-path c =
    let p = err_from_is_err_and c.from_residual.result c.from_residual.ensures.1 in
    rw (p.1, p.2) (fork-refused _ _ _ _ _ _ (fork-bad-path _ _ _ _ _ _ (bad-path _ _ _ _ (room-places _ _) _ c.min.ensures _ c.in_err-path.ensures.path)))

pub returns-in_err-judge_exchange : goal.returns-in_err-judge_exchange
returns-in_err-judge_exchange c =
    let a = c.args in
    let e = c.in_ok-path.ensures in
    let good = good-path _ _ _ _ (room-places (length a.order.now) (length a.sums.now)) _ c.min.ensures c.in_ok-path.path e.path e.same in
    let p = err_from_is_err_and c.from_residual-in_err-judge_exchange.result c.from_residual-in_err-judge_exchange.ensures.1 in
    rw (p.1, p.2) (fork-refused _ _ _ _ _ _ (by_bytes _ _ _ _ _ good _ ∙ done-refused _ _ c.in_err-judge_exchange.ensures))

pub exchange-requires : goal.exchange-requires
exchange-requires c =
    let j = exchange-judged _ _ _ _ _ (done-good _ c.in_ok-judge_exchange.ensures) in
    (j.0.judged, j.1, j.2, j.0.long, j.0.same)

pub returns : goal.returns
returns c =
    let a = c.args in
    let e = c.in_ok-path.ensures in
    let good = good-path _ _ _ _ (room-places (length a.order.now) (length a.sums.now)) _ c.min.ensures c.in_ok-path.path e.path e.same in
    let j = exchange-judged _ _ _ _ _ (done-good _ c.in_ok-judge_exchange.ensures) in
    fork-made _ _ _ _ _ _ _ _ good j.0 j.1 j.2 c.exchange.ensures.0 c.exchange.ensures.1
