-- `order_file::read_unsummed` meets its contract: everything is judged before anything is stored.
use mathlib.Core.Path.{◌∙◌}
use Prim.Native.Nat.{◌^◌, ◌≤◌}
use native.Mathlib.Omega.{arith}
use lib.ListN.{length}
use Rattle.std.proofs.lemmas.Result.{err_from_is_err_and}
use Rattle.base.specs.Size.{max_k}
use Rattle.base.proofs.Size.{stop_count-pow}
use Rattle.orders.proofs.Calls.{done-number, done-refused}
use Rattle.order_file.proofs.Calls.{unsummed-contents, unsummed-accepted, unsummed-gives, unsummed-refused, unsummed-read}
use Rattle.order_file.proofs.read_unsummed.Goals as goal

pub returns-in_err-judge_unsummed : goal.returns-in_err-judge_unsummed
returns-in_err-judge_unsummed c =
    let p = err_from_is_err_and c.from_residual.result c.from_residual.ensures.1 in
    let small : c.args.k ≤ max_k = c.if-k-gt-MAX_K.false in
    let fits : let a = c.args in 2 ^ a.k ≤ length a.order.now = omega (arith, c.stop_count.ensures, stop_count-pow _ small) in
    rw (p.1, p.2) (unsummed-refused _ _ _ _ (unsummed-contents _ _ _ small fits ∙ done-refused _ _ c.in_err-judge_unsummed.ensures.said))

pub returns : goal.returns
returns c =
    let small : c.args.k ≤ max_k = c.if-k-gt-MAX_K.false in
    let fits : let a = c.args in 2 ^ a.k ≤ length a.order.now = omega (arith, c.stop_count.ensures, stop_count-pow _ small) in
    let g = unsummed-gives _ _ (unsummed-accepted _ _ (done-number _ c.in_ok-judge_unsummed.ensures.said)) in
    unsummed-read _ _ _ _ _ (unsummed-contents _ _ _ small fits ∙ g) c.total.ensures c.store_stops.ensures
