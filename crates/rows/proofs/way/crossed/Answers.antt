-- `rows::way::crossed` meets its contract: the first two of the four have each other as the only candidate, and so have the other two.
use Prim.Native.Nat.{◌<◌}
use native.Mathlib.Omega.{arith}
use Rattle.rows.proofs.Blocks.{beside_none}
use Rattle.rows.proofs.way.crossed.Goals as goal

pub returns-clause-by_index : goal.returns-clause-by_index
returns-clause-by_index g c =
    let w = c.crossed-w.ensures in
    let n = c.requires.place_lt_n in
    let inside : c.args.place < 1024 = omega (arith, g.met.C.Costs.small c.args.costs, n.0) in
    let near = beside_none _ n.2 in
    λ row s. record {
      a = c.only-a.ensures.leads row _ (record { inside = inside; zeros = n.1; near = near.0; below = omega (arith, n.3); priced = w.a; leads = s.b });
      b = c.only-b.ensures.leads row _ (record { inside = inside; zeros = n.1; near = near.1; below = omega (arith, n.3); priced = w.b; leads = s.a });
      c = c.only-c.ensures.leads row _ (record { inside = inside; zeros = n.1; near = near.2; below = omega (arith, n.3); priced = w.c; leads = s.d });
      d = c.only-d.ensures.leads row _ (record { inside = inside; zeros = n.1; near = near.3; below = omega (arith, n.3); priced = w.d; leads = s.c });
    }
