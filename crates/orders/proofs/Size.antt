-- The bound on the number of stops, whatever k is.
use mathlib.Core.Path.{◌≡◌, ap}
use Prim.Native.Nat.{ℕ, ◌*◌, ◌≤◌, ◌^◌}
use native.Mathlib.Nat.{mul-le-mul}
use native.Mathlib.Decide.{dec_le}
use native.Mathlib.Omega.{arith}
use lib.Seq.{length-take-le}
use Rattle.base.specs.Size.{max_k, stop_count}
use Rattle.orders.specs.Bits.{byte_count}
use Rattle.base.proofs.Size.{stop_count-pow, stop_count-none, pow-le-1024}

pub stop_count-le : (k : ℕ) → stop_count k ≤ 1024
stop_count-le k = go (dec_le k max_k)
  where
    go : Dec (k ≤ max_k) → stop_count k ≤ 1024
    go (yes h) = omega (arith, stop_count-pow k h, pow-le-1024 k h)
    go (no h) = omega (arith, stop_count-none k (omega arith))

-- the bytes of a fork string as code has them
pub byte_count-is : (k : ℕ) → k ≤ max_k → byte_count (stop_count k) ≡ byte_count (2 ^ k)
byte_count-is k h = ap byte_count (stop_count-pow k h)

-- n² as code has it
pub stop_count-square : (k n : ℕ) → n ≡ stop_count k → n * n ≤ 1048576
stop_count-square k n e =
    let h : n ≤ 1024 = omega (arith, stop_count-le k) in
    mul-le-mul {n₁ = n} {m₁ = n} {n₂ = 1024} {m₂ = 1024} h h

-- what code goes by for its bounds
pub ruleset sizes = (stop_count-pow, stop_count-le, pow-le-1024, byte_count-is, length-take-le)
