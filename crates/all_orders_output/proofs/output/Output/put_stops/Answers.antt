-- `all_orders_output::output::Output::put_stops` meets its contract. The loop's invariant: the stops before this one are put.
use mathlib.Core.List.{[], ◌∷◌}
use lib.ListN.{get_or}
use Rattle.all_orders_output.specs.Decimal.{decimal}
use Rattle.all_orders_output.specs.Text.{space}
use Rattle.all_orders_output.specs.Local.{text_of}
use Rattle.all_orders_output.proofs.Texts.{first-room, second-room, stops-room, stops-none, stops-next}
use Rattle.all_orders_output.proofs.output.Output.put_stops.Goals as goal

pub loop-stop-init : goal.loop-stop-init
loop-stop-init c = stops-none (text_of c.args.self.now) c.args.order.now

pub put-requires : goal.put-requires
put-requires c =
    let l = c.loop-stop in
    let o = c.args.order.now in
    first-room _ _ (space ∷ []) (decimal (get_or o l.stop-index 0)) _ l.invariant (stops-room (text_of c.args.self.now) o _ c.requires l.stop-index c.loop-stop-test.true)

pub put_decimal-requires : goal.put_decimal-requires
put_decimal-requires c =
    let l = c.loop-stop in
    let o = c.args.order.now in
    rw c.from.ensures
    (second-room _ _ (space ∷ []) (decimal (get_or o l.stop-index 0)) _ l.invariant (stops-room (text_of c.args.self.now) o _ c.requires l.stop-index c.loop-stop-test.true) _ c.put.ensures)

pub loop-stop-preserved : goal.loop-stop-preserved
loop-stop-preserved c =
    let l = c.loop-stop in
    stops-next (text_of c.args.self.now) c.args.order.now _ _ _ l.stop-index _ c.loop-stop-test.true l.invariant c.put.ensures c.from.ensures c.put_decimal.ensures
