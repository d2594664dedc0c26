-- `path::PathBytes::judge_end` meets its contract: the end record, and nothing after it.
use Rattle.std.proofs.Common.{rules, ◌≡◌, Err, sym, ap, ◌∙◌, ◌-◌, length, drop, arith}
use Rattle.std.proofs.lemmas.List.{length-drop}
use Rattle.base.specs.Refusal.{refusal_number}
use Rattle.base.specs.Outcome.{said, done}
use Rattle.base.proofs.Outcome.{done-good, done-refused}
use Rattle.path.specs.Path.{stop_place}
use Rattle.path.proofs.BodyLaws.{end_refused, end-trailing, end-good}
use Rattle.path.proofs.PathBytes.judge_end.Goals as goal

pub returns-in_err-judge_place : goal.returns-in_err-judge_place
returns-in_err-judge_place c =
    let handed : c.from_residual.result ≡ Err c.in_err-judge_place.field-0.0 = search rules in
    ap said handed ∙ sym (ap done (end_refused c.args.self.version _ (refusal_number c.in_err-judge_place.field-0.0) (done-refused _ _ c.in_err-judge_place.ensures)))

pub returns-then-place-self : goal.returns-then-place-self
returns-then-place-self c =
    let p = c.args.self in let place = stop_place p.version c.args.count in
    let size : length (drop place p.bytes.now) ≡ length p.bytes.now - place = length-drop place p.bytes.now in
    sym (ap done (end-trailing p.version (drop place p.bytes.now) (done-good _ c.in_ok-judge_place.ensures) (omega (arith, c.place.ensures))))

pub returns : goal.returns
returns c =
    let p = c.args.self in let place = stop_place p.version c.args.count in
    let size : length (drop place p.bytes.now) ≡ length p.bytes.now - place = length-drop place p.bytes.now in
    sym (ap done (end-good p.version (drop place p.bytes.now) (done-good _ c.in_ok-judge_place.ensures) (omega (arith, c.place.ensures))))
