-- `jobs::check_file` meets its contract: the head, the job's own test, and then the stops and the file.
use mathlib.Core.Path.{sym, ◌∙◌}
use Rattle.std.proofs.lemmas.Result.{err_from_is_err_and}
use Rattle.path.proofs.JudgeLaws.{judged-rest}
use Rattle.jobs.proofs.Checking.{check-refused, check-after}
use Rattle.jobs.proofs.Heads.{job-refused, job-given}
use Rattle.jobs.proofs.check_file.Goals as goal

pub returns-in_err-path : goal.returns-in_err-path
returns-in_err-path c =
    let p = err_from_is_err_and c.from_residual.result c.from_residual.ensures.1 in
    rw (p.1, p.2) (sym (check-refused _ _ _ _ (job-refused _ _ _ (λ k n e. e) _ c.in_err-path.ensures.head)))

pub returns : goal.returns
returns c =
    let e = c.in_ok-path.ensures in
    let h = job-given _ _ _ e.head in
    c.check_against.ensures ∙ check-after _ _ _ _ _ _ e.same (judged-rest _ _ _ c.in_ok-path.path h.0 e.same h.1)
