-- `rows::pass_if_any` meets its contract.
use native.Mathlib.Omega.{arith}
use lib.ListN.{length}
use Rattle.rows.specs.Pass.{PassReady}
use Rattle.rows.proofs.Blocks.{aligned-small}
use Rattle.rows.proofs.Asked.{block-follows}
use Rattle.rows.proofs.Passes.{pass-left}
use Rattle.rows.proofs.pass_if_any.Given as given
use Rattle.rows.proofs.pass_if_any.Goals as goal
use Rattle.rows.proofs.pass_if_any.Goals.{Then-ready}

-- it was asked for rightly
asked : (g : given.Over) (c : Then-ready g) → let a = c.args in PassReady (g.C.Costs.costing c.in-Some.costs).stops (length a.totals.now) (length a.pivots.now) a.before a.left a.base a.m
asked g c = rw c.stops.ensures at c.ready.ensures.yes (c.if-ready.true)

pub two_to-stops-requires : goal.two_to-stops-requires
two_to-stops-requires g c = aligned-small (asked g (goal.at.two_to-stops-requires g c).Then-ready).places (g.met.C.Costs.small c.in-Some.costs)

pub first_row-requires-clause-by_index : goal.first_row-requires-clause-by_index
first_row-requires-clause-by_index g c =
    let q = asked g (goal.at.first_row-requires-clause-by_index g c).Then-ready in
    λ i x y. block-follows _ q.places q.stops q.follows i x (omega (arith, c.two_to-stops.ensures))

pub returns-then-ready-clause-made : goal.returns-then-ready-clause-made
returns-then-ready-clause-made g c =
    let q = asked g (goal.at.returns-then-ready-clause-made g c).Then-ready in
    let small = g.met.C.Costs.small c.in-Some.costs in
    rw c.in-Some.is (record {
      made = λ r. pass-left c.two_to-stops.ensures q.some (omega (arith, q.places.inside, small)) q.stops.inside c.first_row.ensures.row c.first_row.ensures.kept c.block.ensures;
      refused = λ h. absurd (h q);
    })
