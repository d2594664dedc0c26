-- An order that is not accepted is refused by a number of the table.
use mathlib.Core.List.{List}
use Prim.Native.Nat.{ℕ, ◌^◌}
use native.Mathlib.Omega.{arith}
use Rattle.base.proofs.Numbered.{Numbered, given, need-numbered}
use Rattle.orders.specs.Allowed.{stops_below, is_allowed, judge_order}

pub order-numbered : (k : ℕ) (o : List ℕ) → Numbered (judge_order k o)
unfolding judge_order
order-numbered k o =
    need-numbered (stops_below (2 ^ k) o) 9 _ (omega arith) (omega arith) (need-numbered (is_allowed k o) 10 _ (omega arith) (omega arith) (given o))
