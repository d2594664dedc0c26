use mathlib.Core.Path.{◌≡◌}
use mathlib.Core.List.{◌++◌}
use lib.ListN.{take}
use Rattle.all_orders_output.specs.Text.{spaced}
use Rattle.all_orders_output.specs.Local.{text_of}
use Rattle.all_orders_output.proofs.output.Output.put_stops.Given as goal

abbrev pub invariant-loop-stop : goal.invariant-loop-stop
invariant-loop-stop l = text_of l.self ≡ text_of l.initial.self ++ spaced (take l.stop-index l.order)
