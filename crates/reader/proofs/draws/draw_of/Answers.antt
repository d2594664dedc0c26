-- `reader::draw_of` meets its contract: the record of stop i is judged, and from n on the end.
use Rattle.std.proofs.Common.{rules, ◌≡◌, Err, sym, ap, ◌∙◌}
use Rattle.base.specs.Refusal.{refusal_number}
use Rattle.base.proofs.Outcome.{done-good, done-refused}
use Rattle.path.specs.Draw.{drawn}
use Rattle.reader.specs.Draws.{answered}
use Rattle.reader.proofs.StepLaws.{of-stop, of-refused, of-ended, of-no-end}
use Rattle.reader.proofs.draws.draw_of.Goals as goal

pub returns-in_err-judge_stop : goal.returns-in_err-judge_stop
returns-in_err-judge_stop c =
    let p = c.args.path in let handed : c.from_residual.result ≡ Err c.in_err-judge_stop.field-0.0 = search rules in
    ap answered handed ∙ sym (of-refused p.bytes.now p.version c.args.count c.args.i c.if-i-count.true (refusal_number c.in_err-judge_stop.field-0.0) (done-refused _ _ c.in_err-judge_stop.ensures))

pub returns-then-i-count : goal.returns-then-i-count
returns-then-i-count c =
    let p = c.args.path in ap drawn c.stop.ensures
    ∙ sym (of-stop p.bytes.now p.version c.args.count c.args.i c.if-i-count.true (done-good _ c.in_ok-judge_stop.ensures))

pub returns-in_err-judge_end : goal.returns-in_err-judge_end
returns-in_err-judge_end c =
    let p = c.args.path in let handed : c.from_residual-in_err-judge_end.result ≡ Err c.in_err-judge_end.field-0.0 = search rules in
    ap answered handed ∙ sym (of-no-end p.bytes.now p.version c.args.count c.args.i c.if-i-count.false (refusal_number c.in_err-judge_end.field-0.0) (done-refused _ _ c.in_err-judge_end.ensures))

pub returns : goal.returns
returns c =
    let p = c.args.path in sym (of-ended p.bytes.now p.version c.args.count c.args.i c.if-i-count.false (done-good _ c.in_ok-judge_end.ensures))
