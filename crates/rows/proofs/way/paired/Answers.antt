-- `rows::way::paired` meets its contract: the first two of the four have the other two as their candidates, and those the first two.
use Prim.Native.Nat.{◌+◌, ◌<◌}
use native.Mathlib.Omega.{arith}
use Rattle.rows.proofs.Blocks.{beside-one}
use Rattle.rows.proofs.Ways.{stands_at, priced-at}
use Rattle.rows.proofs.way.paired.Goals as goal

pub returns-clause-by_index : goal.returns-clause-by_index
returns-clause-by_index g c =
    let v = c.paired-v.ensures in
    let w = c.paired-w.ensures in
    let n = c.requires.place_lt_n in
    let inside : c.args.place < 1024 = omega (arith, g.met.C.Costs.small c.args.costs, n.0) in
    let near = beside-one _ n.2 in
    λ row s.
    let last = stands_at {j = c.args.i + 2 + 1} (omega arith) s.d in
    record {
      a = c.of_two-a.ensures.leads row _ (record { inside = inside; zeros = n.1; near = near.0; below = omega (arith, n.3); priced = v.a; priced₂ = priced-at (omega arith) w.a; leads = s.c; leads₂ = last });
      b = c.of_two-b.ensures.leads row _ (record { inside = inside; zeros = n.1; near = near.1; below = omega (arith, n.3); priced = v.b; priced₂ = priced-at (omega arith) w.b; leads = s.c; leads₂ = last });
      c = c.of_two-c.ensures.leads row _ (record { inside = inside; zeros = n.1; near = near.2; below = omega (arith, n.3); priced = v.c; priced₂ = w.c; leads = s.a; leads₂ = s.b });
      d = c.of_two-d.ensures.leads row _ (record { inside = inside; zeros = n.1; near = near.3; below = omega (arith, n.3); priced = v.d; priced₂ = w.d; leads = s.a; leads₂ = s.b });
    }
