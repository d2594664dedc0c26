-- `stop::Stops::judge_each` meets its contract: the first stop out of range is the refusal.
use Rattle.std.proofs.Common.{rules, ◌≡◌, Err, sym, ap, ◌∙◌, arith}
use borrow.Author.Count.{below_more}
use Rattle.base.specs.Refusal.{refusal_number}
use Rattle.base.specs.Outcome.{said, refuses}
use Rattle.stop.specs.Lent.{lent, stop_at}
use Rattle.stop.proofs.Limits.{stop-good, stop-bad}
use Rattle.stop.proofs.Lent.{judge-good, judge-bad}
use Rattle.stop.proofs.Stops.judge_each.Goals as goal

pub returns-in_err-judge : goal.returns-in_err-judge
returns-in_err-judge c =
    let handed : c.from_residual.result ≡ Err c.in_err-judge.field-0.0 = search rules in
    let bad = stop-bad c.at.result (refusal_number c.in_err-judge.field-0.0) c.in_err-judge.ensures in
    ap said handed ∙ ap refuses bad.1 ∙ judge-bad c.args.count (stop_at (lent c.args.self)) c.loop-i.i (search rules) (rw (sym c.at.ensures) bad.0)

pub loop-i-preserved : goal.loop-i-preserved
loop-i-preserved c = (search rules, below_more _ _ c.loop-i.invariant.1 (rw (sym c.at.ensures) (stop-good c.at.result c.in_ok-judge.ensures)))

pub returns : goal.returns
returns c = judge-good c.args.count (stop_at (lent c.args.self)) (λ i h. c.loop-i.invariant.1 i (omega arith))
