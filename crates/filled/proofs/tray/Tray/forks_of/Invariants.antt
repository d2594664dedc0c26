use mathlib.Core.Path.{◌≡◌}
use Prim.Native.Nat.{◌+◌, ◌-◌, ◌≤◌, ◌<◌}
use lib.ListN.{length, drop}
use Rattle.std.specs.Slice.Iter.{windows_size, windows_rest}
use Rattle.tree.specs.Neighbour.{in_place}
use Rattle.walks.specs.Places.{stops_to}
use Rattle.filled.specs.Moves.{moves_forks}
use Rattle.filled.proofs.tray.Tray.forks_of.Given as goal

abbrev pub invariant-loop-stops : goal.invariant-loop-stops
invariant-loop-stops l =
    let rest = windows_rest l.stops-iterator in
    let i = length l.list - length rest in
    (windows_size l.stops-iterator ≡ 2) × (length rest ≤ length l.list) × (0 < length l.list → 0 < length rest) × (rest ≡ drop i l.list) × (l.forks ≡ moves_forks l.self.k (stops_to (in_place l.list) (i + 1)))
