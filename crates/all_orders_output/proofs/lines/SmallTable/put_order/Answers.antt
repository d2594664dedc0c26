-- `all_orders_output::lines::SmallTable::put_order` meets its contract: the order of the set, its total, and the line of both.
use mathlib.Core.Path.{◌≡◌, ap, ◌∙◌}
use mathlib.Core.List.{List, ◌++◌}
use Prim.Native.Nat.{ℕ, ◌*◌, ◌+◌, ◌^◌}
use native.Mathlib.Omega.{arith}
use lib.ListN.{take, length-append}
use Rattle.all_orders_output.specs.Text.{line_of, order_line}
use Rattle.all_orders_output.specs.Local.{text_of, times_in}
use Rattle.all_orders_output.proofs.Listing.{order-made, made-line}
use Rattle.all_orders_output.proofs.Sizes.{few-stops, line_small}
use Rattle.all_orders_output.proofs.lines.SmallTable.put_order.Goals as goal

pub put_line-requires : goal.put_line-requires
put_line-requires c =
    let t = c.args.self.now in
    let few = few-stops t.k _ t.small c.stop_count.ensures in
    let line : line_of c.sum_moves-total.result (take c.stop_count.result c.order_of_bits.new.order) ≡ order_line t.k (times_in t) c.args.forks =
    made-line _ _ t.times.now _ _ _ t.small few.stops (order-made _ _ _ _ t.small c.requires.forks c.order_of_bits.ensures) c.sum_moves-total.ensures in
    let small = line_small t.k (times_in t) c.args.forks t.small (λ a b. t.short (a * 2 ^ t.k + b)) in
    rw line (omega (arith, small, c.requires.room, length-append (text_of c.args.out.now) (order_line t.k (times_in t) c.args.forks)))

pub returns : goal.returns
returns c =
    let t = c.args.self.now in
    let few = few-stops t.k _ t.small c.stop_count.ensures in
    let line : line_of c.sum_moves-total.result (take c.stop_count.result c.order_of_bits.new.order) ≡ order_line t.k (times_in t) c.args.forks =
    made-line _ _ t.times.now _ _ _ t.small few.stops (order-made _ _ _ _ t.small c.requires.forks c.order_of_bits.ensures) c.sum_moves-total.ensures in
    c.put_line.ensures ∙ ap (λ (l : List ℕ). text_of c.args.out.now ++ l) line
