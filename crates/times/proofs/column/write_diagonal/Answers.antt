-- `times::column::write_diagonal` meets its contract: place after place.
use mathlib.Core.Path.{◌≡◌, refl}
use Prim.Native.Nat.{◌+◌, ◌*◌}
use native.Mathlib.Omega.{arith}
use Rattle.times.proofs.Columns.{each_none, each_more}
use Rattle.times.proofs.column.write_diagonal.Goals as goal

pub loop-r-init : goal.loop-r-init
loop-r-init c = each_none _ _ _

pub loop-r-preserved : goal.loop-r-preserved
loop-r-preserved c =
    let r = c.loop-r.r in
    let place : r * c.args.n + c.args.from + r ≡ 0 + r * c.args.n + (c.args.from + r) = omega arith in
    rw place (each_more _ _ _ r _ _ c.loop-r.invariant refl)
