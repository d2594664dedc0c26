-- `planner::judge_held` meets its contract: the tests in their sequence.
use mathlib.Core.Path.{ap, ◌∙◌}
use Prim.Native.Nat.{◌*◌, ◌^◌}
use native.Mathlib.Omega.{arith}
use native.Mathlib.Nat.{mul-le-mul}
use borrow.Author.Tests.{lt-ltb, le-ltb}
use Rattle.std.proofs.lemmas.Result.{err_from_is_err_and}
use Rattle.base.proofs.Outcome.{done-refused}
use Rattle.path.specs.Path.{body_after_head}
use Rattle.path.proofs.JudgeLaws.{body-done}
use Rattle.planner.specs.HeldFork.{plan_held}
use Rattle.planner.proofs.Judged.{Fit, judged-ok, fit-count}
use Rattle.planner.proofs.HeldJudged.{room-counted, count_small}
use Rattle.planner.proofs.judge_held.Goals as goal
use Rattle.planner.proofs.judge_held.Goals.{In_ok-judge_lengths}

-- the lengths fit
fits : (c : In_ok-judge_lengths) → let a = c.args in Fit a.path.k (2 ^ a.path.k * 2 ^ a.path.k) a.order a.totals a.pivots
fits c = let a = c.args in judged-ok (c.in_ok-judge_lengths.ensures ∙ room-counted a.path.k a.order a.totals a.pivots c.stop_count-n.ensures)

pub overflow_mul-n : goal.overflow_mul-n
overflow_mul-n c =
    let few = count_small c.args.path.k in
    omega (arith, ap (λ n. n * n) c.stop_count-n.ensures, mul-le-mul few few)

pub returns-in_err-judge_lengths : goal.returns-in_err-judge_lengths
unfolding plan_held
returns-in_err-judge_lengths c =
    let a = c.args in
    let p = err_from_is_err_and c.from_residual.result c.from_residual.ensures.1 in
    let room = c.in_err-judge_lengths.ensures ∙ room-counted a.path.k a.order a.totals a.pivots c.stop_count-n.ensures in
    λ state. rw (p.1, p.2, ← room)

pub returns-in_err-judge : goal.returns-in_err-judge
unfolding plan_held
returns-in_err-judge c =
    let a = c.args in
    let p = err_from_is_err_and c.from_residual-in_err-judge.result c.from_residual-in_err-judge.ensures.1 in
    let f = fits (goal.at.returns-in_err-judge c).In_ok-judge_lengths in
    let body = done-refused (body_after_head a.path.bytes.now a.path.version a.path.k) _ c.in_err-judge.ensures in
    λ state. rw (p.1, p.2, f.same, body)

pub returns-then-n-fork : goal.returns-then-n-fork
unfolding plan_held
returns-then-n-fork c =
    let a = c.args in
    let f = fits (goal.at.returns-then-n-fork c).In_ok-judge_lengths in
    let body = body-done a.path.bytes.now a.path.version a.path.k c.in_ok-judge.ensures in
    λ state. rw (f.same, body.stops, le-ltb a.fork (2 ^ a.path.k) (omega (arith, fit-count f c.stop_count-n.ensures, c.if-n-fork.true)))

pub returns : goal.returns
unfolding plan_held
returns c =
    let a = c.args in
    let f = fits (goal.at.returns c).In_ok-judge_lengths in
    let body = body-done a.path.bytes.now a.path.version a.path.k c.in_ok-judge.ensures in
    λ state. rw (f.same, body.stops, lt-ltb a.fork (2 ^ a.path.k) (omega (arith, fit-count f c.stop_count-n.ensures, c.if-n-fork.false)))
