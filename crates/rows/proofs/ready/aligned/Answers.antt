-- `rows::ready::aligned` meets its contract.
use Prim.Native.Nat.{◌%◌}
use native.Mathlib.Omega.{arith}
use Rattle.rows.proofs.Asked.{tells-equal, aligned-made, aligned-multiple}
use Rattle.rows.proofs.ready.aligned.Goals as goal

pub returns : goal.returns
returns c =
    let size = c.two_to-size.ensures in
    tells-equal (c.args.start % c.two_to-size.result) 0 (λ e. aligned-made (omega (arith, size, c.if-n-size-2.false, c.if-n-size.false)) (rw size at e)) (λ a. rw size (aligned-multiple a))
