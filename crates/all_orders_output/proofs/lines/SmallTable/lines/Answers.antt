-- `all_orders_output::lines::SmallTable::lines` meets its contract: one line after the other, by increasing number of the set.
use Prim.Native.Nat.{◌+◌, ◌*◌, ◌^◌, ◌<◌}
use native.Mathlib.Omega.{arith}
use Rattle.orders.specs.Allowed.{set_count}
use Rattle.all_orders_output.specs.Local.{times_in}
use Rattle.all_orders_output.proofs.Listing.{line_set, line-count, lines_none, lines_next}
use Rattle.all_orders_output.proofs.Sizes.{few-stops, line_small}
use Rattle.all_orders_output.proofs.lines.SmallTable.lines.Goals as goal

pub loop-j-init : goal.loop-j-init
loop-j-init c = lines_none _ _ _ c.new-out.ensures

pub put_order-requires-clause-forks : goal.put_order-requires-clause-forks
put_order-requires-clause-forks c =
    let t = c.args.self.now in
    let few = few-stops t.k _ t.small c.stop_count.ensures in
    let below : c.loop-j.j < set_count t.k = omega (arith, c.loop-j-test.true, line-count t.k _ t.small few.stops) in
    rw c.forks_on.ensures (line_set _ _ below)

pub loop-j-preserved : goal.loop-j-preserved
loop-j-preserved c =
    let t = c.args.self.now in
    let small = line_small t.k (times_in t) (2 * c.loop-j.j) t.small (λ a b. t.short (a * 2 ^ t.k + b)) in
    lines_next t.k (times_in t) _ _ c.loop-j.j _ c.loop-j.invariant c.forks_on.ensures small c.put_order.ensures
