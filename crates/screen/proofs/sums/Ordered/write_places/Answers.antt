-- `screen::sums::Ordered::write_places` meets its contract: the forks of the places passed have them.
use mathlib.Core.Path.{refl}
use Prim.Native.Nat.{◌^◌, ◌<◌}
use native.Mathlib.Omega.{arith}
use Rattle.orders.specs.Lent.{order_in}
use Rattle.group_sums.proofs.Between.{Between}
use Rattle.screen.proofs.Order.{count, stop-lt, fork-of}
use Rattle.screen.proofs.Making.{placed-none, placed-more}
use Rattle.screen.proofs.sums.Ordered.write_places.Goals as goal

pub loop-p-init : goal.loop-p-init
loop-p-init c =
    (count _ _ c.args.self.judged _ c.stop_count-n.ensures, omega arith, placed-none _ _ c.args.sums.now c.args.self.judged c.requires)

pub fork_between-requires : goal.fork_between-requires
fork_between-requires c =
    let inside : c.loop-p.p < 2 ^ c.args.self.path.k = omega (arith, c.loop-p.invariant.0, c.loop-p-test.true) in
    let j = c.args.self.judged in
    (j.small, omega (arith, c.loop-p.invariant.1), inside, stop-lt _ _ j _ inside)

pub bounds-sums-fork_between : goal.bounds-sums-fork_between
bounds-sums-fork_between c =
    let inside : c.loop-p.p < 2 ^ c.args.self.path.k = omega (arith, c.loop-p.invariant.0, c.loop-p-test.true) in
    let fork : Between c.args.self.path.k (order_in c.args.self.path.k c.args.self.order.now) c.loop-p.p c.fork_between.result = fork-of _ _ c.args.self.judged _ _ c.loop-p.invariant.1 inside c.fork_between.ensures in
    omega (arith, fork.below, c.loop-p.invariant.2.within.long)

pub loop-p-preserved : goal.loop-p-preserved
loop-p-preserved c =
    let inside : c.loop-p.p < 2 ^ c.args.self.path.k = omega (arith, c.loop-p.invariant.0, c.loop-p-test.true) in
    (c.loop-p.invariant.0, omega arith, placed-more _ _ _ c.args.self.judged _ _ _ _ c.loop-p.invariant.1 inside c.fork_between.ensures refl c.loop-p.invariant.2)
