-- `all_orders_output::output::Output::refusal` meets its contract: a number of 16 bits has at most 5 digits.
use Prim.Native.Nat.{ℕ, ◌≤◌}
use native.Mathlib.Omega.{arith}
use lib.ListN.{length, length-append}
use Rattle.all_orders_output.specs.Decimal.{decimal}
use Rattle.all_orders_output.proofs.Decimal.{length-decimal}
use Rattle.all_orders_output.proofs.output.Output.refusal.Goals as goal

pub put_decimal-requires : goal.put_decimal-requires
put_decimal-requires c =
    let few : length (decimal c.from.result) ≤ 5 = length-decimal 4 c.from.result (omega (arith, c.from.ensures, c.number.type_inv)) in
    rw c.new-out.ensures (omega (arith, few))

pub put-requires : goal.put-requires
put-requires c =
    let few : length (decimal c.from.result) ≤ 5 = length-decimal 4 c.from.result (omega (arith, c.from.ensures, c.number.type_inv)) in
    rw (c.put_decimal.ensures, c.new-out.ensures) (omega (arith, few, length-append {A = ℕ}))
