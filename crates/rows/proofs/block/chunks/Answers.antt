-- `rows::block::chunks` meets its contract. The loop's invariant: the row of the place before `place`, a multiple of 4, is the odd row.
use Prim.Native.Nat.{◌-◌}
use native.Mathlib.Omega.{arith}
use Rattle.rows.proofs.Along.{weighings-few}
use Rattle.rows.proofs.Passes.{chunks-none, chunks-more, chunks-all}
use Rattle.rows.proofs.block.chunks.Goals as goal

pub loop-place-init : goal.loop-place-init
loop-place-init g c = let n = c.requires.from_nonzero in (n.1, chunks-none _ _ n.3)

pub overflow_add-count : goal.overflow_add-count
overflow_add-count g c =
    let a = c.args in
    let n = c.requires.from_nonzero in
    let inv = c.loop-place.invariant.1 in
    let p = c.loop-place.place in
    let taken = c.loop-place-test.true in
    let small = g.met.C.Costs.small a.costs in
    omega (
      arith,
      inv.rows.counted,
      c.chunk-count.ensures.counted,
      small,
      inv.low,
      taken,
      n.2,
      weighings-few a.block.size a.from (p - a.from) (omega (arith, n.5, small)) n.0 (omega (arith, inv.low, taken, n.2, small)),
      weighings-few a.block.size p 4 (omega (arith, n.5, small)) (omega (arith, inv.low, n.0)) (omega (arith, inv.four, taken, n.4, n.2, small)),
    )

pub loop-place-preserved : goal.loop-place-preserved
loop-place-preserved g c =
    let inv = c.loop-place.invariant.1 in
    (omega (arith, inv.four, c.loop-place-test.true, c.requires.from_nonzero.4), chunks-more _ _ inv c.chunk-count.ensures)

pub returns-2 : goal.returns-2
returns-2 g c =
    let inv = c.loop-place.invariant.1 in
    chunks-all (omega (arith, inv.four, c.loop-place-test.true, c.requires.from_nonzero.4)) (chunks-more _ _ inv c.chunk-count.ensures)
