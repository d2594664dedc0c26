use mathlib.Core.Path.{◌≡◌}
use Prim.Native.Nat.{◌≤◌}
use lib.ListN.{length}
use Rattle.stop.specs.Lent.{coords_of, speeds_of, blends_of, dwells_of}
use Rattle.base.specs.Outcome.{over}
use Rattle.path.specs.Path.{stops_in}
use Rattle.path.proofs.fill.store_stops.Given as goal

abbrev pub invariant-loop-i : goal.invariant-loop-i
invariant-loop-i l =
    (l.i ≤ l.count) × (l.coords ≡ over (coords_of (stops_in l.path.version l.i l.path.bytes.now)) l.initial.coords) × (l.speeds ≡ over (speeds_of (stops_in l.path.version l.i l.path.bytes.now)) l.initial.speeds)
    × (l.blends ≡ over (blends_of (stops_in l.path.version l.i l.path.bytes.now)) l.initial.blends) × (l.dwells ≡ over (dwells_of (stops_in l.path.version l.i l.path.bytes.now)) l.initial.dwells)
    × (length l.coords ≡ length l.initial.coords) × (length l.speeds ≡ length l.initial.speeds) × (length l.blends ≡ length l.initial.blends) × (length l.dwells ≡ length l.initial.dwells)
