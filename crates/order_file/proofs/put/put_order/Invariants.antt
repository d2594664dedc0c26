use mathlib.Core.Path.{◌≡◌}
use lib.ListN.{take}
use Rattle.records.specs.Put.{put}
use Rattle.order_file.specs.File.{stops_place, stop_bytes}
use Rattle.order_file.proofs.put.put_order.Given as goal

abbrev pub invariant-loop-p : goal.invariant-loop-p
invariant-loop-p l = l.out ≡ put l.initial.out stops_place (stop_bytes (take l.p l.order))
