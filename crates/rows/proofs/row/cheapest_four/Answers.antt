-- `rows::row::cheapest_four` meets its contract. The loop's invariant: for each of the four what is held is the best over the candidates before j.
use Prim.Native.Nat.{◌+◌, ◌^◌, ◌<◌}
use native.Mathlib.Omega.{arith}
use Rattle.tree.specs.Block.{beside_of}
use Rattle.rows.proofs.Columns.{columns-none, columns-more, columns-all}
use Rattle.rows.proofs.row.cheapest_four.Goals as goal

pub loop-j-init : goal.loop-j-init
loop-j-init g c =
    let q = c.requires.place_lt_n in
    let e = c.beside-first.ensures in
    let f = c.two_to.ensures in
    (omega (arith, e), omega (arith, e), omega (arith, e, f), columns-none _ _ _ _ _ _ _ _ q.4 q.2 q.1 _ c.start-none.ensures _ e)

pub loop-j-preserved : goal.loop-j-preserved
loop-j-preserved g c =
    let n = c.requires.place_lt_n in
    let inv = c.loop-j.invariant in
    let below : c.loop-j.j < beside_of c.args.to c.args.t + 2 ^ c.args.t = omega (arith, inv.2, c.loop-j-test.true) in (
      omega (arith, inv.0),
      omega (arith, below),
      inv.2,
      columns-more _ _ _ _ _ _ _ _ n.4 n.2 n.1 _ _ (omega (arith, n.0, g.met.C.Costs.small c.args.costs)) inv.0 below (rw c.stops-n.ensures at c.load-before.ensures) inv.3 c.weigh_four-held.ensures,
    )

pub returns-clause-by_index : goal.returns-clause-by_index
returns-clause-by_index g c =
    let n = c.requires.place_lt_n in
    let inv = c.loop-j.invariant in
    (columns-all _ _ _ _ _ _ _ _ n.4 n.2 n.1 _ (omega (arith, inv.1, inv.2, c.loop-j-test.false)) (omega (arith, inv.1, n.6)) inv.3 c.settle_four.ensures).1
