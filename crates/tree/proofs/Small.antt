-- Totals of 32-bit times.
use mathlib.Core.List.{List}
use Prim.Native.Nat.{ℕ, zero, suc, pred, ◌*◌, ◌≤◌, ◌<◌}
use native.Mathlib.Nat.{mul-le-mul_right, suc-mul}
use native.Mathlib.Omega.{arith}
use lib.ListN.{length}
use Rattle.tree.specs.Neighbour.{in_place}
use Rattle.tree.specs.Total.{moves, total}

-- m moves
moves-small : (t : ℕ → ℕ → ℕ) (o : List ℕ) (m : ℕ) → ((a b : ℕ) → t a b ≤ 4294967295) → moves t o m ≤ m * 4294967295
moves-small t o zero h = omega arith
moves-small t o (suc m) h = omega (arith, moves-small t o m h, h (in_place o m) (in_place o (suc m)), suc-mul m 4294967295)

-- the total of an order of up to 1,024 stops has 42 bits
pub total-small : (t : ℕ → ℕ → ℕ) (o : List ℕ) → ((a b : ℕ) → t a b ≤ 4294967295) → length o ≤ 1024 → total t o < 4398046511103
total-small t o h b =
    let p : pred (length o) ≤ 1023 = omega arith in
    omega (arith, moves-small t o (pred (length o)) h, mul-le-mul_right 4294967295 p)
