-- `orders::exchanges::invert` meets its contract: the bytes passed are inverted, and the rest is as it was.
use native.Mathlib.Omega.{arith}
use Rattle.orders.proofs.Inverted.{inverted-none, inverted-more}
use Rattle.orders.proofs.exchanges.invert.Goals as goal

pub loop-i-init : goal.loop-i-init
loop-i-init c = inverted-none _ _

pub loop-i-preserved : goal.loop-i-preserved
loop-i-preserved c = inverted-more _ _ _ _ (omega arith) c.loop-i.invariant
