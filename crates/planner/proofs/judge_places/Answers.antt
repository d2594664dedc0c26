-- `planner::judge_places` meets its contract: the planner's tests, and then the second table's length.
use native.Mathlib.Omega.{arith}
use borrow.Author.Tests.{eq-eqb, ne_eqb}
use Rattle.rows.proofs.Table.{square-small}
use Rattle.planner.specs.Places.{places_room}
use Rattle.planner.proofs.Judged.{judged-ok, fit-count, fit-few}
use Rattle.planner.proofs.judge_places.Goals as goal

pub overflow_mul-n : goal.overflow_mul-n
overflow_mul-n c =
    let f = judged-ok c.in_ok-judge_lengths.ensures in
    omega (arith, square-small c.stop_count-n.result (fit-few f c.stop_count-n.ensures))

pub returns-then-places-n : goal.returns-then-places-n
unfolding places_room
returns-then-places-n c =
    let f = judged-ok c.in_ok-judge_lengths.ensures in
    rw (f.same, ← fit-count f c.stop_count-n.ensures, ne_eqb _ _ c.if-places-n.true)

pub returns : goal.returns
unfolding places_room
returns c =
    let f = judged-ok c.in_ok-judge_lengths.ensures in
    rw (f.same, ← fit-count f c.stop_count-n.ensures, eq-eqb _ _ c.if-places-n.false)
