-- `planner::plan_held` meets its contract: the costs come from the bytes, and a fork is held.
use mathlib.Core.Path.{sym, subst}
use native.Mathlib.Omega.{arith}
use Rattle.std.proofs.lemmas.Result.{err_from_is_err_and}
use Rattle.base.proofs.Outcome.{refused-giving}
use Rattle.planner.specs.HeldFork.{state_of, HoldsFork}
use Rattle.planner.proofs.Judged.{fit-count, fit-few, fit-room}
use Rattle.planner.proofs.HeldJudged.{held-ok, held_gives}
use Rattle.planner.proofs.HeldForks.{path-plan, path-left}
use Rattle.planner.proofs.ByTable.{has-plan}
use Rattle.planner.proofs.Written.{written-none}
use Rattle.planner.proofs.plan_held.Goals as goal

pub returns-in_err-judge_held : goal.returns-in_err-judge_held
returns-in_err-judge_held c =
    let p = err_from_is_err_and c.from_residual.result c.from_residual.ensures.1 in
    rw (p.1, p.2) (written-none _ (refused-giving (λ a. tt) _ _ (sym (c.in_err-judge_held.ensures (state_of c.args.exchanged)))))

pub held-held-requires : goal.held-held-requires
held-held-requires c =
    let f = held-ok 0 (c.in_ok-judge_held.ensures 0) in
    let e = c.stop_count-n.ensures in
    (fit-few f.fit e, omega (arith, f.inside, fit-count f.fit e))

pub unwrap-costs-requires : goal.unwrap-costs-requires
unwrap-costs-requires c = let f = held-ok 0 (c.in_ok-judge_held.ensures 0) in c.new.ensures.fits.1 (fit-few f.fit c.stop_count-n.ensures)

pub run-requires-clause-room_for : goal.run-requires-clause-room_for
run-requires-clause-room_for c =
    let f = held-ok 0 (c.in_ok-judge_held.ensures 0) in
    let m = rw c.unwrap-costs.ensures at c.new.ensures.holds in
    rw m.0 (fit-room f.fit c.stop_count-n.ensures)

pub run-requires-clause-has_plan : goal.run-requires-clause-has_plan
run-requires-clause-has_plan c =
    let a = c.args in
    let f = held-ok 0 (c.in_ok-judge_held.ensures 0) in
    let count = fit-count f.fit c.stop_count-n.ensures in
    let holds = subst (λ n. HoldsFork n a.fork a.exchanged c.held-held.result) count c.held-held.ensures in
    let m = rw c.unwrap-costs.ensures at c.new.ensures.holds in
    rw (m.0, m.1, m.2, m.3) (has-plan (path-plan a.path.k a.path.version a.path.bytes.now a.fork a.exchanged c.held-held.result f.inside holds count))

pub returns : goal.returns
returns c =
    let a = c.args in
    let f = held-ok 0 (c.in_ok-judge_held.ensures 0) in
    let count = fit-count f.fit c.stop_count-n.ensures in
    let holds = subst (λ n. HoldsFork n a.fork a.exchanged c.held-held.result) count c.held-held.ensures in
    let m = rw c.unwrap-costs.ensures at c.new.ensures.holds in
    path-left a.path.k a.path.version a.path.bytes.now a.fork a.exchanged c.held-held.result f.inside holds f.body.range c.run.result count (held_gives _ _ _ _ _ _ _ f (state_of a.exchanged)) (rw (m.0, m.1, m.2, m.3) at c.run.ensures)
