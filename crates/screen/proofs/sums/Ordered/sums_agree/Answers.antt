-- `screen::sums::Ordered::sums_agree` meets its contract: the forks of the places passed add up.
use mathlib.Core.Path.{sym, ◌∙◌}
use Prim.Native.Nat.{◌^◌, ◌<◌}
use native.Mathlib.Omega.{arith}
use Rattle.orders.specs.Lent.{order_in}
use Rattle.group_sums.proofs.Between.{Between}
use Rattle.screen.proofs.Order.{count, few, stop-lt, fork-of}
use Rattle.screen.proofs.Testing.{tested-none, tested-more, tested-fails, tested-not, tested-all}
use Rattle.screen.proofs.sums.Ordered.sums_agree.Goals as goal

pub returns-then-sums-ne0 : goal.returns-then-sums-ne0
returns-then-sums-ne0 c = tested-not _ _ _ _ c.args.self.judged c.requires (λ e. absurd (omega (arith, e, c.if-sums-ne0.true)))

pub loop-p-init : goal.loop-p-init
loop-p-init c =
    (count _ _ c.args.self.judged _ c.stop_count-n.ensures, omega arith, tested-none _ _ _ _ c.args.self.judged c.requires (omega (arith, c.if-sums-ne0.false)))

pub fork_between-v-requires : goal.fork_between-v-requires
fork_between-v-requires c =
    let inside : c.loop-p.p < 2 ^ c.args.self.path.k = omega (arith, c.loop-p.invariant.0, c.loop-p-test.true) in
    let j = c.args.self.judged in
    (j.small, omega (arith, c.loop-p.invariant.1), inside, stop-lt _ _ j _ inside)

pub adds_up-requires : goal.adds_up-requires
adds_up-requires c =
    let inside : c.loop-p.p < 2 ^ c.args.self.path.k = omega (arith, c.loop-p.invariant.0, c.loop-p-test.true) in
    let fork : Between c.args.self.path.k (order_in c.args.self.path.k c.args.self.order.now) c.loop-p.p c.fork_between-v.result = fork-of _ _ c.args.self.judged _ _ c.loop-p.invariant.1 inside c.fork_between-v.ensures in
    let f = fork in
    (omega (arith, c.loop-p.invariant.0, c.requires), omega (arith, few _ _ c.args.self.judged, f.below), omega (arith, c.loop-p.invariant.0, f.below))

pub returns-then-not-adds_up : goal.returns-then-not-adds_up
returns-then-not-adds_up c =
    let inside : c.loop-p.p < 2 ^ c.args.self.path.k = omega (arith, c.loop-p.invariant.0, c.loop-p-test.true) in
    tested-fails _ _ _ _ c.args.self.judged c.requires _ _ _ _ c.loop-p.invariant.1 inside
    c.fork_between-v.ensures c.loop-p.invariant.0 c.move_into.ensures
    (sym c.adds_up.ensures ∙ c.if-not-adds_up.true)

pub loop-p-preserved : goal.loop-p-preserved
loop-p-preserved c =
    let inside : c.loop-p.p < 2 ^ c.args.self.path.k = omega (arith, c.loop-p.invariant.0, c.loop-p-test.true) in (
      c.loop-p.invariant.0,
      omega arith,
      tested-more _ _ _ _ c.args.self.judged c.requires _ _ _ _ c.loop-p.invariant.1 inside
          c.fork_between-v.ensures c.loop-p.invariant.0 c.move_into.ensures
          (sym c.adds_up.ensures ∙ c.if-not-adds_up.false) c.loop-p.invariant.2,
    )

pub returns : goal.returns
returns c =
    tested-all _ _ _ _ c.args.self.judged c.requires _ (omega (arith, c.loop-p.invariant.0, c.loop-p-test.false)) c.loop-p.invariant.2
