-- `screen::judge::judge_exchange` meets its contract: the records, then the fork.
use mathlib.Core.Path.{sym, ap}
use native.Mathlib.Omega.{arith}
use Rattle.base.specs.Outcome.{done}
use Rattle.screen.proofs.Order.{count}
use Rattle.screen.proofs.Records.{records-done, exchange-out, exchange-given}
use Rattle.screen.proofs.judge.judge_exchange.Goals as goal
use Rattle.screen.proofs.judge.judge_exchange.Goals.{then-fork-eq0-via-then-fork-eq0, then-fork-eq0-via-else-fork-eq0+then-stop_count-fork}

pub returns-then-fork-eq0 : goal.returns-then-fork-eq0
returns-then-fork-eq0 c =
    let g = records-done _ _ _ _ c.in_ok-judge_records.ensures in
    elim c.then-fork-eq0.branch [
      | then-fork-eq0-via-then-fork-eq0 w ↦ sym (ap done (exchange-out _ _ _ _ _ g (λ a b. absurd (omega (arith, w.if-fork-eq0.true)))))
      | then-fork-eq0-via-else-fork-eq0+then-stop_count-fork w ↦ sym (ap done (exchange-out _ _ _ _ _ g (λ a b. absurd (omega (arith, count _ _ g.judged _ w.stop_count.ensures, w.if-stop_count-fork.true)))))
    ]

pub returns : goal.returns
returns c =
    let g = records-done _ _ _ _ c.in_ok-judge_records.ensures in
    sym (ap done (exchange-given _ _ _ _ _ g (omega (arith, c.if-fork-eq0.false)) (omega (arith, count _ _ g.judged _ c.stop_count.ensures, c.if-stop_count-fork.false))))
