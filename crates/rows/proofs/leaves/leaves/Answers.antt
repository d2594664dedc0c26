-- `rows::leaves::leaves` meets its contract. The loop's invariant: the stops before i, a multiple of 4, have theirs in the odd row, the even row is
-- as it was, and 4 candidates were weighed for each stop.
use mathlib.Core.Logic.{inl}
use Prim.Native.Nat.{◌+◌, ◌≤◌}
use native.Mathlib.Omega.{arith}
use Rattle.rows.proofs.Made.{made-four, made_all}
use Rattle.rows.proofs.leaves.leaves.Goals as goal

pub loop-i-preserved : goal.loop-i-preserved
loop-i-preserved g c =
    let n = c.requires.place_value in
    let inv = c.loop-i.invariant in
    let room : c.loop-i.i + 4 ≤ c.args.block.base + c.args.block.size = omega (arith, n) in
    (omega (arith, inv.0), made-four (inl (omega (arith, n.2))) inv.1.low room room inv.1 c.leaf-count.ensures)

pub returns-2 : goal.returns-2
returns-2 g c =
    let n = c.requires.place_value in
    let inv = c.loop-i.invariant in
    let room : c.loop-i.i + 4 ≤ c.args.block.base + c.args.block.size = omega (arith, n) in
    made_all (omega arith) (made-four (inl (omega (arith, n.2))) inv.1.low room room inv.1 c.leaf-count.ensures)
