-- `path::write::write_path` meets its contract: the version and k, the stops, and then the output.
use Rattle.std.proofs.Common.{rules, ◌≡◌, Err, ap, ◌∙◌, ℕ, ◌^◌, length}
use Rattle.base.specs.Refusal.{refusal_number}
use Rattle.base.specs.Outcome.{said, done}
use Rattle.stop.specs.Lent.{lent, judge_lent}
use Rattle.path.proofs.WriteLaws.{write-unformed, write-refused, write-output, bytes-refused}
use Rattle.path.proofs.write.write_path.Goals as goal

pub returns-in_err-form : goal.returns-in_err-form
returns-in_err-form c =
    let handed : c.from_residual.result ≡ Err c.in_err-form.field-0.0 = search rules in
    bytes-refused _ _ _ (refusal_number c.in_err-form.field-0.0) (ap said handed) (write-unformed _ _ _ _ _ c.in_err-form.ensures.judged)

pub returns-in_err-judge : goal.returns-in_err-judge
returns-in_err-judge c =
    let count : c.count.result ≡ 2 ^ c.args.k = c.count.ensures ∙ ap (λ (k : ℕ). 2 ^ k) c.in_ok-form.ensures.same.1 in
    let handed : c.from_residual-in_err-judge.result ≡ Err c.in_err-judge.field-0.0 = search rules in
    bytes-refused _ _ _ (refusal_number c.in_err-judge.field-0.0) (ap said handed)
    (write-refused _ _ _ _ c.in_ok-form.ensures.judged _ (c.in_err-judge.ensures ∙ ap (λ (n : ℕ). done (judge_lent n (lent c.args.stops))) count))

pub returns : goal.returns
returns c =
    let count : c.count.result ≡ 2 ^ c.args.k = c.count.ensures ∙ ap (λ (k : ℕ). 2 ^ k) c.in_ok-form.ensures.same.1 in
    let good = c.in_ok-form.ensures in
    let writes = write-output c.args.version c.args.k (lent c.args.stops) (length c.args.out.now) good.judged (c.in_ok-judge.ensures ∙ ap (λ (n : ℕ). done (judge_lent n (lent c.args.stops))) count) in
    rw writes (rw (good.same.0, good.same.1) at c.write_stops.ensures)
