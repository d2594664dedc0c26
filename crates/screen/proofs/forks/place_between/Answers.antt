-- `screen::forks::place_between` meets its contract: the place is not passed, and where its fork is found, it is the place.
use mathlib.Core.Path.{sym, ◌∙◌}
use Prim.Native.Nat.{◌^◌, ◌<◌}
use native.Mathlib.Omega.{arith}
use Rattle.group_sums.proofs.Between.{between-pos, between-lt}
use Rattle.screen.proofs.Order.{count, stop-lt, between-found, between-later}
use Rattle.screen.proofs.forks.place_between.Goals as goal

pub loop-p-init : goal.loop-p-init
loop-p-init c =
    (count _ _ c.requires.0 _ c.stop_count-n.ensures, omega (arith, between-pos _ _ c.requires.0.allowed _ c.requires.1 c.requires.2))

pub fork_between-requires : goal.fork_between-requires
fork_between-requires c =
    let inside : c.loop-p.p < 2 ^ c.args.k = omega (arith, c.loop-p.invariant.0, c.loop-p-test.true) in
    let j = c.requires.0 in
    (j.small, c.loop-p.auto.p, inside, stop-lt _ _ j _ inside)

pub returns-then-fork_between-v : goal.returns-then-fork_between-v
returns-then-fork_between-v c =
    let inside : c.loop-p.p < 2 ^ c.args.k = omega (arith, c.loop-p.invariant.0, c.loop-p-test.true) in
    between-found _ _ c.requires.0 _ _ c.loop-p.auto.p inside (sym c.fork_between.ensures ∙ c.if-fork_between-v.true)

pub loop-p-preserved : goal.loop-p-preserved
loop-p-preserved c =
    (c.loop-p.invariant.0, omega (arith, between-later _ _ c.requires.0 c.loop-p.p _ _ c.requires.1 c.requires.2 c.loop-p.invariant.1 c.fork_between.ensures c.if-fork_between-v.false))

pub returns : goal.returns
returns c =
    absurd (omega (arith, c.loop-p-test.false, c.loop-p.invariant.0, c.loop-p.invariant.1, between-lt _ _ c.requires.0.allowed _ c.requires.1 c.requires.2))
