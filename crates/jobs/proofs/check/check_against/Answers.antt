-- `jobs::check::check_against` meets its contract: the path's stops decide first, then what the file says, then its total.
use mathlib.Core.Path.{refl, sym}
use Rattle.std.proofs.lemmas.Result.{err_from_is_err_and}
use Rattle.jobs.proofs.Checking.{against-refused, read-refused, total-wrong, total-same}
use Rattle.jobs.proofs.check.check_against.Goals as goal

pub returns-in_err-sum : goal.returns-in_err-sum
returns-in_err-sum c =
    let p = err_from_is_err_and c.from_residual.result c.from_residual.ensures.1 in
    rw (p.1, p.2) (sym (against-refused _ _ _ _ _ _ c.in_err-sum.ensures))

pub returns-in_err-total : goal.returns-in_err-total
returns-in_err-total c =
    let p = err_from_is_err_and c.from_residual-in_err-total.result c.from_residual-in_err-total.ensures.1 in
    rw (p.1, p.2) (read-refused _ _ _ _ _ _ c.requires refl _ c.in_ok-sum.ensures _ c.in_err-total.ensures)

pub returns-then-total-sum : goal.returns-then-total-sum
returns-then-total-sum c = total-wrong _ _ _ _ _ _ c.requires refl _ c.in_ok-sum.ensures _ c.in_ok-total.ensures c.if-total-sum.true

pub returns : goal.returns
returns c = total-same _ _ _ _ _ _ c.requires refl _ c.in_ok-sum.ensures _ c.in_ok-total.ensures c.if-total-sum.false
