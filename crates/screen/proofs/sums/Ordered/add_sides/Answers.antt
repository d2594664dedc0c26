-- `screen::sums::Ordered::add_sides` meets its contract: the forks passed, from the last on, have their sums.
use Prim.Native.Nat.{◌-◌, ◌^◌, ◌<◌}
use native.Mathlib.Omega.{arith}
use Rattle.screen.proofs.Order.{times-short, count, few}
use Rattle.screen.proofs.Making.{summed-none, next-lt, next_fits, summed-more, summed-all}
use Rattle.screen.proofs.sums.Ordered.add_sides.Goals as goal

pub loop-v-init : goal.loop-v-init
loop-v-init c =
    let n = count _ _ c.args.self.judged _ c.stop_count-n.ensures in
    (n, rw n (summed-none _ _ _ c.args.self.judged _ _ c.requires))

pub move_into-requires : goal.move_into-requires
move_into-requires c =
    let next : c.loop-v.v - 1 < 2 ^ c.args.self.path.k = omega (arith, c.loop-v.invariant.1.last, c.loop-v-test.true) in
    let j = c.args.self.judged in
    let p = next-lt _ _ _ j _ c.loop-v.v _ c.loop-v-test.true c.loop-v.invariant.1 in
    (omega (arith, p.0), omega (arith, p.1, next, j.long))

pub sum_by-sum-requires : goal.sum_by-sum-requires
sum_by-sum-requires c =
    let next : c.loop-v.v - 1 < 2 ^ c.args.self.path.k = omega (arith, c.loop-v.invariant.1.last, c.loop-v-test.true) in
    let j = c.args.self.judged in
    let n = c.loop-v.invariant.0 in (
      omega (arith, n, c.loop-v.invariant.1.within.long),
      omega (arith, next, few _ _ j),
      next_fits _ _ _ j _ _ _ _ _ (times-short _ _) n c.loop-v-test.true c.loop-v.invariant.1 c.move_into.ensures,
    )

pub loop-v-preserved : goal.loop-v-preserved
loop-v-preserved c =
    let n = c.loop-v.invariant.0 in
    (n, summed-more _ _ _ c.args.self.judged _ _ _ _ _ _ n c.loop-v-test.true c.loop-v.invariant.1 c.move_into.ensures c.sum_by-sum.ensures)

pub returns : goal.returns
returns c = summed-all _ _ _ c.args.self.judged _ _ _ c.loop-v-test.false c.loop-v.invariant.1
