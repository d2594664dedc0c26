-- The numbers that code has of the sizes of a file, and their bounds.
use mathlib.Core.Path.{◌≡◌, refl, ap, ◌∙◌}
use Prim.Native.Nat.{ℕ, ◌≤◌, ◌<◌, ◌^◌}
use native.Mathlib.Omega.{arith}
use lib.Pow.{pow_pos}
use Rattle.records.proofs.LengthLaws.{length-small, order-length, stops-length, forks-length, end-length}
use Rattle.orders.proofs.Size.{stop_count-square}
use Rattle.base.specs.Size.{max_k, stop_count}
use Rattle.base.proofs.Size.{stop_count-pow, pow-le-1024}
use Rattle.orders.specs.Bits.{byte_count}

-- n stops and m bytes of fork bits
pub record Sizes (k n m : ℕ) : Type 0 where
  pub count : n ≡ 2 ^ k
  pub bytes : m ≡ byte_count (2 ^ k)
  pub some : 0 < n
  pub small : n ≤ 1024
  pub few : m ≤ 128

pub sizes : (k n m : ℕ) → k ≤ max_k → n ≡ stop_count k → m ≡ byte_count (stop_count k) → Sizes k n m
sizes k n m h e f =
    let c : n ≡ 2 ^ k = e ∙ stop_count-pow k h in
    let b : m ≡ byte_count (2 ^ k) = f ∙ ap byte_count (stop_count-pow k h) in
    record {
      count = c;
      bytes = b;
      some = omega (arith, pow_pos k);
      small = omega (arith, pow-le-1024 k h);
      few = omega (arith, pow-le-1024 k h);
    }

-- the same of the definitions themselves
pub true-sizes : (k : ℕ) → k ≤ max_k → Sizes k (2 ^ k) (byte_count (2 ^ k))
true-sizes k h = record { count = refl; bytes = refl; some = pow_pos k; small = pow-le-1024 k h; few = omega (arith, pow-le-1024 k h) }

-- what code goes by for the lengths of the records
pub ruleset lengths = (length-small, order-length, stops-length, forks-length, end-length, stop_count-square)
