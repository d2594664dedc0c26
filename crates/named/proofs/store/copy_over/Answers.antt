-- `named::store::copy_over` meets its contract: the places passed hold the other slice's.
use mathlib.Core.Path.{refl, ap, ◌∙◌}
use mathlib.Core.List.{List}
use native.Mathlib.Omega.{arith}
use lib.ListN.{set}
use Rattle.orders.proofs.Filled.{copied-more, copied-all}
use Rattle.named.proofs.store.copy_over.Goals as goal

pub loop-i-init : goal.loop-i-init
loop-i-init g c = refl

pub loop-i-preserved : goal.loop-i-preserved
loop-i-preserved g c =
    ap (λ (l : List g.row.T.Denot). set l c.loop-i.i c.index-from-i.result) c.loop-i.invariant
    ∙ copied-more c.args.to.now c.args.from.now c.loop-i.i c.index-from-i.result _ c.loop-i-test.true (omega (arith, c.requires, c.loop-i-test.true)) c.index-from-i.is

pub returns : goal.returns
returns g c = c.loop-i.invariant ∙ copied-all c.args.to.now c.args.from.now c.loop-i.i c.loop-i-test.false c.requires
