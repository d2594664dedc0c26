-- `rows::block::large_block` meets its contract.
use mathlib.Core.Path.{sym}
use native.Mathlib.Omega.{arith}
use Prim.Native.Nat.{◌+◌, ◌*◌, ◌-◌}
use Rattle.rows.proofs.Blocks.{Large, large, aligned-small}
use Rattle.rows.proofs.Along.{weighings-few}
use Rattle.rows.proofs.Passes.{made-rows, block_made, some_size}
use Rattle.rows.proofs.block.large_block.Given as given
use Rattle.rows.proofs.block.large_block.Goals as goal
use Rattle.rows.proofs.block.large_block.Goals.{After-two_to-half}

-- the numbers of the block
sizes : (g : given.Over) (c : After-two_to-half g) → Large (g.C.Costs.costing c.args.costs).stops c.args.left c.args.base c.args.m c.two_to-half.result
sizes g c = let n = c.requires.lt_m in large n.0 n.1 n.2 c.two_to-half.ensures

pub two_to-half-requires : goal.two_to-half-requires
two_to-half-requires g c = omega (arith, aligned-small c.requires.lt_m.1 (g.met.C.Costs.small c.args.costs))

pub invariant_of-stops : goal.invariant_of-stops
invariant_of-stops g c =
    let z = sizes g (goal.at.invariant_of-stops g c).After-two_to-half in
    record { starts = z.stops; whole = omega (arith, z.fours) }

pub first_half-early-requires : goal.first_half-early-requires
first_half-early-requires g c =
    let q = c.requires in
    let z = sizes g (goal.at.first_half-early-requires g c).After-two_to-half in record {
      two_rows = q.two_rows;
      le_half = (z.four, z.fours, z.places, z.end, z.inside);
      by_index = λ p x y. z.closed p x (omega arith);
      some_row = some_size (sym z.whole) q.some_row;
    }

pub chunks-late-requires-clause-from_nonzero : goal.chunks-late-requires-clause-from_nonzero
chunks-late-requires-clause-from_nonzero g c =
    let z = sizes g (goal.at.chunks-late-requires-clause-from_nonzero g c).After-two_to-half in
    (omega (arith, z.four), omega arith, z.end, omega (arith, z.places, z.fours), omega (arith, z.places, z.fours), z.inside)

pub chunks-late-requires-clause-by_index : goal.chunks-late-requires-clause-by_index
chunks-late-requires-clause-by_index g c =
    let z = sizes g (goal.at.chunks-late-requires-clause-by_index g c).After-two_to-half in
    λ p x y. z.closed p (omega (arith, z.four)) y

pub chunks-late-requires-clause-some_row : goal.chunks-late-requires-clause-some_row
chunks-late-requires-clause-some_row g c =
    let z = sizes g (goal.at.chunks-late-requires-clause-some_row g c).After-two_to-half in
    made-rows (some_size (sym z.whole) c.requires.some_row) c.first_half-early.ensures

pub overflow_add-result : goal.overflow_add-result
overflow_add-result g c =
    let a = c.args in
    let h = c.two_to-half.result in
    let small = g.met.C.Costs.small a.costs in
    let z = sizes g (goal.at.overflow_add-result g c).After-two_to-half in
    omega (
      arith,
      c.first_half-early.ensures.counted,
      c.chunks-late.ensures.counted,
      small,
      z.inside,
      z.end,
      z.four,
      weighings-few (2 * h) (a.left + 1) (h - 1) (omega (arith, z.inside, small)) (omega arith) (omega (arith, z.end, z.four, small)),
      weighings-few (2 * h) (a.left + h) (a.left + 2 * h - (a.left + h)) (omega (arith, z.inside, small)) (omega (arith, z.four)) (omega (arith, z.end, small)),
    )

pub returns : goal.returns
returns g c =
    let z = sizes g (goal.at.returns g c).After-two_to-half in
    block_made _ c.requires.lt_m.1 c.two_to-half.ensures z.whole (omega (arith, z.four)) c.first_half-early.ensures c.chunks-late.ensures
