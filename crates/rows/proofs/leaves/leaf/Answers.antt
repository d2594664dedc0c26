-- `rows::leaves::leaf` meets its contract: four ways are read, led through three places and written.
use native.Mathlib.Omega.{arith}
use Rattle.rows.proofs.Leaf.{Ways, ways-light, ways-read, ways_next, ways-at, ways-sum, leaf-made}
use Prim.Native.Nat.{◌+◌}
use Rattle.rows.proofs.leaves.leaf.Given as given
use Rattle.rows.proofs.leaves.leaf.Goals as goal
use Rattle.rows.proofs.leaves.leaf.Goals.{After-load_four-o, After-crossed-x, After-paired-y}

-- the four ways as they are read, and after the first place and the second
read : (g : given.Over) (c : After-load_four-o g) → Ways c.args.place c.args.i 0 c.load_four-o.result
read g c = ways-read c.requires.some_row c.load_four-o.ensures

first : (g : given.Over) (c : After-crossed-x g) → Ways (c.args.place + 1) c.args.i 1 c.crossed-x.result
first g c = ways_next 1 (read g c.before) (c.crossed-x.ensures.by_four, c.crossed-x.ensures.by_index)

second : (g : given.Over) (c : After-paired-y g) → Ways (c.args.place + 2) c.args.i 3 c.paired-y.result
second g c = ways-at (omega arith) (ways_next 2 (first g c.before) (c.paired-y.ensures.by_four, c.paired-y.ensures.by_index))

pub crossed-x-requires-clause-each_four : goal.crossed-x-requires-clause-each_four
crossed-x-requires-clause-each_four g c = ways-light (omega (arith, g.met.C.Costs.small c.args.costs)) (omega arith) (read g c)

pub paired-y-requires-clause-each_four : goal.paired-y-requires-clause-each_four
paired-y-requires-clause-each_four g c = ways-light (omega (arith, g.met.C.Costs.small c.args.costs)) (omega arith) (first g c)

pub crossed-z-requires-clause-each_four : goal.crossed-z-requires-clause-each_four
crossed-z-requires-clause-each_four g c = ways-light (omega (arith, g.met.C.Costs.small c.args.costs)) (omega arith) (second g c)

pub returns : goal.returns
returns g c =
    let after = (goal.at.returns g c).After-paired-y in
    let third : Ways (c.args.place + 3) c.args.i 4 c.crossed-z.result = ways-at (omega arith) (ways_next 1 (second g after) (c.crossed-z.ensures.by_four, c.crossed-z.ensures.by_index)) in
    let stored = c.store_four.ensures in
    rw (← c.stops-n.ensures) (record {
      counted = omega (arith, stored.value, ways-sum third);
      turned = leaf-made _ _ c.load_four-o.ensures c.crossed-x.ensures.by_index c.paired-y.ensures.by_index c.crossed-z.ensures.by_index stored.in_four;
      totals_kept = stored.kept.0;
      pivots_kept = stored.kept.1;
    })
