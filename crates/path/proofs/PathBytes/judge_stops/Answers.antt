-- `path::PathBytes::judge_stops` meets its contract: what is left to judge at stop i says what the whole says.
use Rattle.std.proofs.Common.{rules, ◌≡◌, Err, sym, ap, ◌∙◌, suc, ◌+◌, ◌-◌, drop, arith}
use native.Mathlib.Nat.{sub-zero}
use native.Mathlib.Numerals.{add-one}
use Rattle.base.specs.Refusal.{refusal_number}
use Rattle.base.specs.Outcome.{said, done}
use Rattle.base.proofs.Outcome.{done-good, done-refused}
use Rattle.path.specs.Path.{stop_place}
use Rattle.path.proofs.BodyLaws.{body_refused, place_after}
use Rattle.path.proofs.PlaceLaws.{place-zero}
use Rattle.path.proofs.PathBytes.judge_stops.Goals as goal

pub loop-i-init : goal.loop-i-init
loop-i-init c = (omega arith, rw (sub-zero, place-zero))

pub returns-in_err-judge_stop : goal.returns-in_err-judge_stop
returns-in_err-judge_stop c =
    let a = c.args in let i = c.loop-i.i in let more : a.count - i ≡ suc (a.count - (i + 1)) = omega arith in
    let handed : c.from_residual.result ≡ Err c.in_err-judge_stop.field-0.0 = search rules in
    ap said handed
    ∙ sym (ap done (body_refused a.self.version (a.count - (i + 1)) (drop (stop_place a.self.version i) a.self.bytes.now) (refusal_number c.in_err-judge_stop.field-0.0) (done-refused _ _ c.in_err-judge_stop.ensures)))
    ∙ (rw more at c.loop-i.invariant.1)

pub loop-i-preserved : goal.loop-i-preserved
loop-i-preserved c =
    let a = c.args in let i = c.loop-i.i in let more : a.count - i ≡ suc (a.count - (i + 1)) = omega arith in (
      omega arith,
      rw (add-one i)
          (sym (place_after a.self.version (a.count - suc i) i a.self.bytes.now (done-good _ c.in_ok-judge_stop.ensures))
          ∙ (rw (more, add-one i) at c.loop-i.invariant.1)),
    )
