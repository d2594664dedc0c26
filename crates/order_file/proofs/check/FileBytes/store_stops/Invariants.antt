use mathlib.Core.Path.{◌≡◌}
use mathlib.Core.List.{◌++◌}
use Prim.Native.Nat.{◌*◌}
use lib.ListN.{take, drop}
use Rattle.base.specs.Lists.{tabulate}
use Rattle.records.specs.Field.{number_of}
use Rattle.order_file.specs.File.{stops_place}
use Rattle.order_file.proofs.check.FileBytes.store_stops.Given as goal

abbrev pub invariant-loop-p : goal.invariant-loop-p
invariant-loop-p l =
    l.stop-items ≡ tabulate l.p (λ q. number_of (take 2 (drop (2 * q) (drop stops_place l.self.bytes.now)))) ++ drop l.p l.initial.stop-items
