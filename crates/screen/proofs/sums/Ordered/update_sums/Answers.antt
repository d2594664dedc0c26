-- `screen::sums::Ordered::update_sums` meets its contract: the forks passed, from v up, have their sums anew.
use mathlib.Core.Path.{◌∙◌}
use Prim.Native.Nat.{◌^◌, ◌<◌}
use native.Mathlib.Omega.{arith}
use Rattle.screen.proofs.Order.{times-short, few}
use Rattle.screen.proofs.Updating.{at-inside, fork-fits, updated-more, place_up, updated-all}
use Rattle.screen.proofs.sums.Ordered.update_sums.Goals as goal

pub move_into-requires : goal.move_into-requires
move_into-requires c =
    let place : (0 < c.loop-u.at) × (c.loop-u.at < 2 ^ c.args.self.path.k) = at-inside _ _ _ _ c.args.self.judged _ _ c.loop-u-test.true c.loop-u.invariant.1 _ (c.loop-u.invariant.2 c.loop-u-test.true) c.loop-u.invariant.3 in
    let p = place in (p.0, omega (arith, p.1, c.args.self.judged.long))

pub sum_by-sum-requires : goal.sum_by-sum-requires
sum_by-sum-requires c =
    let i = c.loop-u.invariant in
    let j = c.args.self.judged in (
      omega (arith, i.0, i.3.within.long),
      omega (arith, i.1, few _ _ j),
      fork-fits _ _ _ _ j _ _ c.loop-u-test.true i.1 _ (i.2 c.loop-u-test.true) i.3 _ _ (times-short _ _) i.0 c.move_into.ensures,
    )

pub place_above-at-requires : goal.place_above-at-requires
place_above-at-requires c =
    let place : (0 < c.loop-u.at) × (c.loop-u.at < 2 ^ c.args.self.path.k) = at-inside _ _ _ _ c.args.self.judged _ _ c.loop-u-test.true c.loop-u.invariant.1 _ (c.loop-u.invariant.2 c.loop-u-test.true) c.loop-u.invariant.3 in
    let p = place in (p.0, omega (arith, p.1, few _ _ c.args.self.judged))

pub loop-u-preserved : goal.loop-u-preserved
loop-u-preserved c =
    let i = c.loop-u.invariant in
    let j = c.args.self.judged in
    let taken = c.loop-u-test.true in (
      i.0,
      omega (arith, i.1),
      λ up. c.place_above-at.ensures ∙ place_up _ _ _ _ j _ _ taken i.1 _ (i.2 taken) i.3 up,
      updated-more _ _ _ _ j _ _ taken i.1 _ (i.2 taken) i.3 _ _ _ i.0 c.move_into.ensures c.sum_by-sum.ensures,
    )

pub returns : goal.returns
returns c = updated-all _ _ _ _ _ _ c.args.self.judged (omega arith) c.loop-u.invariant.3
