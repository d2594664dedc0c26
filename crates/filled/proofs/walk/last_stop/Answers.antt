-- `filled::walk::last_stop` meets its contract. The loop's invariant: what is held is the least of the stops before this one.
use mathlib.Core.Path.{◌∙◌}
use native.Mathlib.Omega.{arith}
use Rattle.filled.specs.Row.{standing}
use Rattle.filled.proofs.Loops.{least-none, least_more}
use Rattle.filled.proofs.walk.last_stop.Goals as goal

pub loop-stop-init : goal.loop-stop-init
loop-stop-init c = least-none _ 0

pub loop-stop-preserved : goal.loop-stop-preserved
loop-stop-preserved c =
    let l = c.loop-stop in
    c.keep-held.ensures ∙ least_more (standing c.args.row.now) 0 l.stop _ (omega arith) l.invariant
