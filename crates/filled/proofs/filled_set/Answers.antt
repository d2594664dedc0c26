-- `filled::filled_set` meets its contract. The loop's invariant: the set of the filled ones of the first i stops.
use mathlib.Core.Path.{◌∙◌}
use Prim.Native.Nat.{◌^◌, ◌<◌}
use native.Mathlib.Omega.{arith}
use Rattle.filled.specs.Filled.{filled_in}
use Rattle.filled.proofs.Flags.{set-none, set-lt, set_next, with-filled, with-empty}
use Rattle.filled.proofs.filled_set.Goals as goal
use Rattle.filled.proofs.filled_set.Goals.{then-byte-eq0, else-byte-eq0}

pub loop-i-init : goal.loop-i-init
loop-i-init c = set-none _

pub overflow_add-set : goal.overflow_add-set
overflow_add-set c =
    let l = c.loop-i in
    let small : l.set < 2 ^ l.i = rw l.invariant (set-lt (filled_in c.args.empties.now) l.i) in
    record { fits = (with-filled c.args.empties.now l.set l.i c.loop-i-test.true (omega arith) small c.if-byte-eq0.true).0 }

pub loop-i-preserved : goal.loop-i-preserved
loop-i-preserved c =
    let l = c.loop-i in
    let small : l.set < 2 ^ l.i = rw l.invariant (set-lt (filled_in c.args.empties.now) l.i) in
    set_next c.args.empties.now l.i l.set _ l.invariant
    (elim c.if-byte-eq0.branch [
      | then-byte-eq0 w ↦ w.set-is ∙ (with-filled c.args.empties.now l.set l.i c.loop-i-test.true (omega arith) small w.if-byte-eq0.true).1
      | else-byte-eq0 w ↦ w.set-is ∙ with-empty c.args.empties.now l.set l.i c.loop-i-test.true w.if-byte-eq0.false
    ])
