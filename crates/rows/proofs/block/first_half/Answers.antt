-- `rows::block::first_half` meets its contract.
use native.Mathlib.Omega.{arith}
use Prim.Native.Nat.{◌+◌, ◌-◌}
use Rattle.rows.proofs.Along.{weighings-few}
use Rattle.rows.proofs.Passes.{made_row, half-made, some_at}
use Rattle.rows.proofs.block.first_half.Goals as goal

pub chunks-rest-requires-clause-some_row : goal.chunks-rest-requires-clause-some_row
chunks-rest-requires-clause-some_row g c = some_at (omega arith) (made_row c.requires.some_row c.leaves-first.ensures)

pub overflow_add-result : goal.overflow_add-result
overflow_add-result g c =
    let a = c.args in
    let n = c.requires.le_half in
    let small = g.met.C.Costs.small a.costs in
    omega (
      arith,
      c.leaves-first.ensures.counted,
      c.chunks-rest.ensures.counted,
      small,
      n.4,
      n.3,
      weighings-few a.block.size (a.left + 4) (a.left + a.half - (a.left + 4)) (omega (arith, n.4, small)) (omega arith) (omega (arith, n.0, n.3, small)),
    )

pub returns : goal.returns
returns g c =
    let n = c.requires.le_half in
    half-made _ _ _ n.2 n.0 n.4 c.leaves-first.ensures c.chunks-rest.ensures
