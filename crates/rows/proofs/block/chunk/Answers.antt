-- `rows::block::chunk` meets its contract.
use mathlib.Core.Path.{◌≡◌, sym}
use native.Mathlib.Omega.{arith}
use lib.Count.{count_trailing_zeros}
use Rattle.tree.specs.Neighbour.{trail}
use Rattle.tree.proofs.Beside.{trail-count, trail-lt}
use Rattle.rows.proofs.Blocks.{trail-four, closed-as}
use Rattle.rows.proofs.Along.{row-few}
use Rattle.rows.proofs.Passes.{chunk-made}
use Rattle.rows.proofs.block.chunk.Given as given
use Rattle.rows.proofs.block.chunk.Goals as goal
use Rattle.rows.proofs.block.chunk.Goals.{Start}

-- the language's count finds the place's trailing zero bits
count : (g : given.Over) (c : Start g) → count_trailing_zeros 64 c.args.place ≡ trail c.args.place
count g c = let n = c.requires.place_nonzero in trail-count 64 c.args.place n.0 (omega (arith, n.2, g.met.C.Costs.small c.args.costs))

pub next_row-first-requires-clause-place_lt_n : goal.next_row-first-requires-clause-place_lt_n
next_row-first-requires-clause-place_lt_n g c =
    let a = c.args in
    let n = c.requires.place_nonzero in
    let e = count g (goal.at.next_row-first-requires-clause-place_lt_n g c).Start in (
      omega (arith, n.2),
      e,
      omega (arith, e, trail-four a.place n.1 n.0),
      omega (arith, e, trail-lt 10 a.place n.0 (omega (arith, n.2, g.met.C.Costs.small a.costs))),
      n.3,
      closed-as (sym e) n.4,
    )

pub overflow_add-result : goal.overflow_add-result
overflow_add-result g c =
    let a = c.args in
    let q = c.requires in
    let small = g.met.C.Costs.small a.costs in
    omega (arith, c.next_row-first.ensures.counted, c.leaves-rest.ensures.counted, q, row-few a.block.size a.place _ (omega (arith, q)) q.place_nonzero.0 (omega (arith, q)) (count g (goal.at.overflow_add-result g c).Start))

pub returns : goal.returns
returns g c =
    let n = c.requires.place_nonzero in
    chunk-made _ _ n.1 (count g (goal.at.returns g c).Start) n.3 c.next_row-first.ensures c.leaves-rest.ensures
