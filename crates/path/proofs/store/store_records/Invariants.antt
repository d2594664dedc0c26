use mathlib.Core.Path.{◌≡◌}
use Prim.Native.Nat.{◌≤◌}
use lib.ListN.{length}
use Rattle.base.specs.Lists.{tabulate}
use Rattle.records.specs.Put.{put}
use Rattle.path.specs.Written.{stops_bytes}
use Rattle.path.proofs.store.store_records.Given as goal

abbrev pub invariant-loop-i : goal.invariant-loop-i
invariant-loop-i g l =
    (l.i ≤ l.count) × (l.out ≡ put l.initial.out 8 (stops_bytes l.version (tabulate l.i (g.S.StopSource.stop_at l.source)))) × (length l.out ≡ length l.initial.out)
