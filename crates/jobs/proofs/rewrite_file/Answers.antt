-- `jobs::rewrite_file` meets its contract: the head, the job's own test, and then the rewriting.
use mathlib.Core.Path.{refl}
use lib.ListN.{length}
use Rattle.std.proofs.lemmas.Result.{err_from_is_err_and}
use Rattle.path.proofs.JudgeLaws.{judged-rest}
use Rattle.path.proofs.WriteLaws.{bytes-refused}
use Rattle.jobs.proofs.Heads.{job-refused, job-given}
use Rattle.jobs.proofs.Rewriting.{rewrite-refused, rewrite-after}
use Rattle.jobs.proofs.rewrite_file.Goals as goal

pub returns-in_err-path : goal.returns-in_err-path
returns-in_err-path c =
    let p = err_from_is_err_and c.from_residual.result c.from_residual.ensures.1 in
    rw (p.1, p.2) (bytes-refused _ _ _ _ refl (rewrite-refused _ _ _ _ _ (job-refused _ _ _ (λ k n e. e) _ c.in_err-path.ensures.head)))

pub returns : goal.returns
returns c =
    let e = c.in_ok-path.ensures in
    let h = job-given _ _ _ e.head in
    let p = c.in_ok-path.path in
    let a = c.args in
    rw (rewrite-after p.bytes.now a.path.now a.highest a.version (length a.out.now) p.version p.k e.same (judged-rest _ _ _ p h.0 e.same h.1)) at c.rewrite_path.ensures
