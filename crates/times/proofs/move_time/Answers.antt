-- `times::move_time` meets its contract: the two stops are judged, then timed.
use Rattle.std.proofs.Common.{rules, ◌≡◌, true, Err, sym, ap, ◌∙◌}
use Rattle.base.specs.Refusal.{refusal_number}
use Rattle.base.specs.Outcome.{said, gives, refuses}
use Rattle.stop.specs.Stop.{in_range}
use Rattle.stop.proofs.Limits.{stop-good, stop-bad}
use Rattle.times.proofs.Time.{move-from, move-to, move-good}
use Rattle.times.proofs.move_time.Goals as goal
use Rattle.times.proofs.move_time.Goals.{In_ok-judge-2}

pub returns-in_err-judge : goal.returns-in_err-judge
returns-in_err-judge c =
    let handed : c.from_residual.result ≡ Err c.in_err-judge.field-0.0 = search rules in
    let bad = stop-bad c.args.from (refusal_number c.in_err-judge.field-0.0) c.in_err-judge.ensures in
    ap said handed ∙ ap refuses bad.1 ∙ sym (move-from c.args.from c.args.to bad.0)

pub returns-in_err-judge-2 : goal.returns-in_err-judge-2
returns-in_err-judge-2 c =
    let handed : c.from_residual-in_err-judge-2.result ≡ Err c.in_err-judge-2.field-0.0 = search rules in
    let bad = stop-bad c.args.to (refusal_number c.in_err-judge-2.field-0.0) c.in_err-judge-2.ensures in
    ap said handed ∙ ap refuses bad.1 ∙ sym (move-to c.args.from c.args.to (stop-good c.args.from c.in_ok-judge.ensures) bad.0)

both-good : (c : In_ok-judge-2) → (in_range c.args.from ≡ true) × (in_range c.args.to ≡ true)
both-good c = (stop-good c.args.from c.in_ok-judge.ensures, stop-good c.args.to c.in_ok-judge-2.ensures)

pub invariant_of-time : goal.invariant_of-time
invariant_of-time c = record { from_good = (both-good c).0; to_good = (both-good c).1 }

pub returns : goal.returns
returns c = ap gives c.time.ensures ∙ sym (move-good _ _ (both-good c.before.before).0 (both-good c.before.before).1)
