-- Sums over places in a row.
use mathlib.Core.Path.{◌≡◌, refl, ap, ap₂}
use Prim.Native.Nat.{ℕ, zero, suc, ◌+◌, ◌*◌, ◌≤◌, ◌<◌}
use native.Mathlib.Nat.{add-zero, add-suc, add_assoc}
use native.Mathlib.Omega.{arith}
use Rattle.group_sums.specs.Travel.{sum_from}

-- a sum in two parts
pub sum_from-split : (g : ℕ → ℕ) (a c d : ℕ) → sum_from g a (c + d) ≡ sum_from g a c + sum_from g (a + c) d
sum_from-split g a c zero = rw (add-zero c) (omega arith)
sum_from-split g a c (suc d) = rw (add-suc c d, sum_from-split g a c d, add_assoc a c d) (omega arith)

-- the first of it
pub sum_from-first : (g : ℕ → ℕ) (a c : ℕ) → sum_from g a (suc c) ≡ g a + sum_from g (suc a) c
sum_from-first g a zero = rw (add-zero a) (omega arith)
sum_from-first g a (suc c) =
    let e : g (a + suc c) ≡ g (suc a + c) = ap g (omega arith) in
    omega (arith, sum_from-first g a c)

-- equal parts, equal sums
pub sum_from-same : (f g : ℕ → ℕ) (a b c : ℕ) → ((j : ℕ) → j < c → f (a + j) ≡ g (b + j)) → sum_from f a c ≡ sum_from g b c
sum_from-same f g a b zero s = refl
sum_from-same f g a b (suc c) s = ap₂ ◌+◌ (sum_from-same f g a b c (λ j l. s j (omega arith))) (s c (omega arith))

-- a bound of each is one of the sum
pub sum_from-le : (g : ℕ → ℕ) (a c B : ℕ) → ((q : ℕ) → g q ≤ B) → sum_from g a c ≤ c * B
sum_from-le g a zero B s = omega arith
sum_from-le g a (suc c) B s = omega (arith, sum_from-le g a c B s, s (a + c))

-- nothing sums to nothing
pub sum_from-none : (g : ℕ → ℕ) (a c : ℕ) → ((j : ℕ) → j < c → g (a + j) ≡ 0) → sum_from g a c ≡ 0
sum_from-none g a zero s = refl
sum_from-none g a (suc c) s = omega (arith, sum_from-none g a c (λ j l. s j (omega arith)), s c (omega arith))
