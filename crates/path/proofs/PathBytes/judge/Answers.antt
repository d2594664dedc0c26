-- `path::PathBytes::judge` meets its contract: the version, k, and then the stops.
use Rattle.std.proofs.Common.{rules, ◌≡◌, Err, sym, ap, ◌∙◌, ℕ, ◌^◌, drop}
use Rattle.base.specs.Refusal.{refusal_number}
use Rattle.base.specs.Outcome.{said, done}
use Rattle.path.specs.Path.{read_body}
use Rattle.path.proofs.FormLaws.{form-good}
use Rattle.path.proofs.JudgeLaws.{body-unformed, after-head}
use Rattle.path.proofs.PathBytes.judge.Goals as goal

pub returns-in_err-form : goal.returns-in_err-form
returns-in_err-form c =
    let p = c.args.self in let handed : c.from_residual.result ≡ Err c.in_err-form.field-0.0 = search rules in
    ap said handed ∙ sym (ap done (body-unformed p.bytes.now p.version p.k (refusal_number c.in_err-form.field-0.0) c.in_err-form.ensures.judged))

pub returns : goal.returns
returns c =
    let p = c.args.self in let good = form-good p.version p.k c.in_ok-form.ensures.judged in
    let count : c.count.result ≡ 2 ^ p.k = c.count.ensures ∙ ap (λ (k : ℕ). 2 ^ k) c.in_ok-form.ensures.same.1 in
    c.judge_stops.ensures
    ∙ ap (λ (n : ℕ). done (read_body p.version n (drop 8 p.bytes.now))) count
    ∙ ap done (sym (after-head p.bytes.now p.version p.k good.0 good.1))
