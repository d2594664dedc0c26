use mathlib.Core.Path.{◌≡◌}
use Prim.Native.Nat.{◌-◌, ◌≤◌}
use lib.ListN.{drop}
use Rattle.base.specs.Outcome.{done}
use Rattle.path.specs.Path.{read_body, stop_place}
use Rattle.path.proofs.PathBytes.judge_stops.Given as goal

-- what the bytes say from the place of stop i on
abbrev pub invariant-loop-i : goal.invariant-loop-i
invariant-loop-i l =
    (l.i ≤ l.count) × (done (read_body l.self.version (l.count - l.i) (drop (stop_place l.self.version l.i) l.self.bytes.now)) ≡ done (read_body l.self.version l.count (drop 8 l.self.bytes.now)))
