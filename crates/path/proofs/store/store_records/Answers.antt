-- `path::store::store_records` meets its contract: after i turns the records of the first i stops are stored.
use mathlib.Core.Path.{refl, ◌∙◌}
use Prim.Native.Nat.{◌+◌, ◌*◌, ◌≤◌}
use native.Mathlib.Numerals.{add-one}
use native.Mathlib.Omega.{arith}
use lib.ListN.{length}
use Rattle.path.proofs.StoreLaws.{record-room, none-stored, next-stored}
use Rattle.path.proofs.store.store_records.Goals as goal

pub loop-i-init : goal.loop-i-init
loop-i-init g c = (omega arith, none-stored _ _ _ c.requires, refl)

pub overflow_mul-i : goal.overflow_mul-i
overflow_mul-i g c =
    let room : let size = c.stop_size-size.result in let a = c.args in 8 + (c.loop-i.i * size + size) ≤ length a.out.now = record-room _ _ _ _ _ c.stop_size-size.ensures c.loop-i-test.true c.requires in
    omega (arith, room)

pub overflow_add-i : goal.overflow_add-i
overflow_add-i g c =
    let room : let size = c.stop_size-size.result in let a = c.args in 8 + (c.loop-i.i * size + size) ≤ length a.out.now = record-room _ _ _ _ _ c.stop_size-size.ensures c.loop-i-test.true c.requires in
    omega (arith, room)

pub put_stop-requires : goal.put_stop-requires
put_stop-requires g c =
    let room : let size = c.stop_size-size.result in let a = c.args in 8 + (c.loop-i.i * size + size) ≤ length a.out.now = record-room _ _ _ _ _ c.stop_size-size.ensures c.loop-i-test.true c.requires in
    omega (arith, room, c.stop_size-size.ensures, c.loop-i.invariant.2)

pub loop-i-preserved : goal.loop-i-preserved
loop-i-preserved g c =
    let room : let size = c.stop_size-size.result in let a = c.args in 8 + (c.loop-i.i * size + size) ≤ length a.out.now = record-room _ _ _ _ _ c.stop_size-size.ensures c.loop-i-test.true c.requires in
    let i = c.loop-i.i in let inv = c.loop-i.invariant in (
      omega arith,
      rw (add-one i) (next-stored _ i _ _ _ _ _ _ c.stop_size-size.ensures c.stop.ensures inv.1 c.put_stop.ensures room),
      c.put_stop.auto.out ∙ inv.2,
    )
