-- `filled::row::Tray::first_row` meets its contract. The loop's invariant: the first i cells of row 0 are made.
use mathlib.Core.Path.{◌∙◌}
use Prim.Native.Nat.{ℕ, ◌≤◌, ◌<◌}
use native.Mathlib.Omega.{arith}
use lib.ListN.{length, length-take}
use Rattle.filled.proofs.Made.{cells_store, first_cell, first-rows}
use Rattle.filled.proofs.tray.Tray.first_row.Goals as goal

pub loop-i-preserved : goal.loop-i-preserved
loop-i-preserved c =
    let t = c.args.self.now in
    let l = c.loop-i in
    let room : l.i < length l.total-items = omega (arith, l.auto.total-items) in
    let long : length l.total-items ≤ t.n = omega (arith, l.auto.total-items, length-take {A = ℕ}) in
    cells_store t l.total-items 0 l.i _ (omega (arith, long)) _ (omega arith) room l.invariant (c.if_filled.ensures ∙ first_cell t l.i)

pub returns : goal.returns
returns c =
    let t = c.args.self.now in
    let l = c.loop-i in
    first-rows t l.total-items c.args.work.now l.i c.requires l.auto.total-items (omega arith) l.invariant
