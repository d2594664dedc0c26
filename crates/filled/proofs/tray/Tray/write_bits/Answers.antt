-- `filled::fork::Tray::write_bits` meets its contract.
use mathlib.Core.Path.{sym, ap, ◌∙◌}
use Prim.Native.Nat.{ℕ, ◌+◌, ◌/◌, ◌≤◌}
use native.Mathlib.Omega.{arith}
use lib.ListN.{length}
use lib.Seq.{length-take-le}
use Rattle.filled.proofs.Bytes.{eight-bytes, first-written}
use Rattle.filled.proofs.Made.{tray-few}
use Rattle.filled.proofs.tray.Tray.write_bits.Goals as goal
use Rattle.filled.proofs.tray.Tray.write_bits.Goals.{After-to_le_bytes}

-- the bytes that are written are among the eight
room : (c : After-to_le_bytes) → (c.args.self.now.n + 7) / 8 ≤ length c.to_le_bytes.result
room c = omega (arith, tray-few c.args.self.now, ap length c.to_le_bytes.ensures ∙ eight-bytes c.forks_of.result)

pub slice_bounds-copy_from_slice-end-3 : goal.slice_bounds-copy_from_slice-end-3
slice_bounds-copy_from_slice-end-3 c = room (goal.at.slice_bounds-copy_from_slice-end-3 c).After-to_le_bytes

pub slice_bounds-copy_from_slice-end-4 : goal.slice_bounds-copy_from_slice-end-4
slice_bounds-copy_from_slice-end-4 c =
    sym (length-take-le _ c.to_le_bytes.result (room (goal.at.slice_bounds-copy_from_slice-end-4 c).After-to_le_bytes))

pub copy_from_slice-requires : goal.copy_from_slice-requires
copy_from_slice-requires c =
    length-take-le _ c.args.bits.now c.requires.bits
    ∙ sym (length-take-le _ c.to_le_bytes.result (room (goal.at.copy_from_slice-requires c).After-to_le_bytes))

pub returns : goal.returns
returns c =
    let count : ℕ = (c.args.self.now.n + 7) / 8 in
    first-written count _ _ _ _ c.args.bits.now (omega (arith, tray-few c.args.self.now)) c.copy_from_slice.ensures.after c.to_le_bytes.ensures c.forks_of.ensures
