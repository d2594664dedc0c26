-- `jobs::plan_file` meets its contract: the head, the job's own tests, and then the plan.
use mathlib.Core.Path.{◌≡◌, ap, ◌∙◌}
use Prim.Native.Nat.{◌^◌}
use native.Mathlib.Omega.{arith}
use Rattle.std.proofs.lemmas.Result.{err_from_is_err_and}
use Rattle.base.specs.Outcome.{giving}
use Rattle.base.proofs.Size.{stop_count-pow}
use Rattle.order_file.specs.File.{file_size}
use Rattle.path.proofs.JudgeLaws.{judged-test, judged-rest}
use Rattle.jobs.specs.Plan.{wanted_file}
use Rattle.jobs.proofs.Heads.{job-refused, job-given}
use Rattle.jobs.proofs.Limits.{passes-small, plan-large, plan-short, plan-passes}
use Rattle.jobs.proofs.Planning.{left-refused, left-same, plan_after, file-planned}
use Rattle.jobs.proofs.plan_file.Goals as goal

pub returns-in_err-path : goal.returns-in_err-path
returns-in_err-path c =
    let p = err_from_is_err_and c.from_residual.result c.from_residual.ensures.1 in
    rw (p.1, p.2) (file-planned _ _ _ _ _ (left-refused _ _ _ (ap (giving wanted_file) (job-refused _ _ _ (λ k n. plan-large _ k n) _ c.in_err-path.ensures.head))))

pub returns-then-out-file_size : goal.returns-then-out-file_size
returns-then-out-file_size c =
    let e = c.in_ok-path.ensures in
    let p = c.in_ok-path.path in
    let h = job-given _ _ _ e.head in
    let small = passes-small _ h.1 in
    let size : c.file_size.result ≡ file_size (2 ^ p.k) = c.file_size.ensures ∙ ap file_size (stop_count-pow _ (omega (arith, small))) in
    file-planned _ _ _ _ _ (left-refused _ _ _ (ap (giving wanted_file) (judged-test _ _ _ p h.0 e.same _ (plan-short _ _ small (rw size at c.if-out-file_size.true)))))

pub returns : goal.returns
returns c =
    let e = c.in_ok-path.ensures in
    let p = c.in_ok-path.path in
    let h = job-given _ _ _ e.head in
    let small = passes-small _ h.1 in
    let size : c.file_size.result ≡ file_size (2 ^ p.k) = c.file_size.ensures ∙ ap file_size (stop_count-pow _ (omega (arith, small))) in
    file-planned _ _ _ _ _ (left-same _ _ _ _ _ (plan_after _ _ _ _ _ _ e.same (judged-rest _ _ _ p h.0 e.same (plan-passes _ _ small (rw size at c.if-out-file_size.false)))) c.plan_small.ensures)
