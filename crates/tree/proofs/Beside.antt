-- The trailing zero bits of a place, and what they say of the stops in it and in the place before.
use mathlib.Core.Path.{◌≡◌, refl, ap, ◌∙◌}
use mathlib.Core.Logic.{◌≢◌, ◌⊎◌, inl, inr}
use Prim.Native.Nat.{ℕ, zero, suc, ◌+◌, ◌*◌, ◌/◌, ◌%◌, ◌^◌, ◌≤◌, ◌<◌}
use native.Mathlib.Nat.{pow-succ', div-one, div-div-eq-div-mul, mul_left_comm, one-le-mul}
use lib.Pow.{pow_pos}
use lib.Count.{count_trailing_zeros}
use Rattle.tree.specs.Neighbour.{trail, reach, reach_of}
use native.Mathlib.Omega.{arith}

-- an odd number has none
zeros-odd : (d p : ℕ) → p % 2 ≡ 1 → count_trailing_zeros d p ≡ 0
unfolding count_trailing_zeros
zeros-odd zero p e = refl
zeros-odd (suc d) p e = rw (count_trailing_zeros, e)

-- an even number has one more than its half
zeros-even : (d p : ℕ) → p % 2 ≡ 0 → count_trailing_zeros (suc d) p ≡ suc (count_trailing_zeros d (p / 2))
unfolding count_trailing_zeros
zeros-even d p e = rw (count_trailing_zeros, e)

-- a number is even or odd
pub parity : (p : ℕ) → (p % 2 ≡ 0) ⊎ (p % 2 ≡ 1)
parity p = go (p % 2) refl
  where
    go : (r : ℕ) → p % 2 ≡ r → (p % 2 ≡ 0) ⊎ (p % 2 ≡ 1)
    go zero h = inl h
    go (suc r) h = inr (omega arith)

-- once all are counted, more do not come
pub zeros-enough : (d e p : ℕ) → 1 ≤ p → p < 2 ^ d → p < 2 ^ e → count_trailing_zeros d p ≡ count_trailing_zeros e p
zeros-enough zero e p a b c = omega arith
zeros-enough (suc d) zero p a b c = omega arith
zeros-enough (suc d) (suc e) p a b c =
    go (λ x. zeros-enough d e (p / 2) x (omega (arith, pow-succ' 2 d)) (omega (arith, pow-succ' 2 e))) (parity p)
  where
    go : (1 ≤ p / 2 → count_trailing_zeros d (p / 2) ≡ count_trailing_zeros e (p / 2)) → (p % 2 ≡ 0) ⊎ (p % 2 ≡ 1)
        → count_trailing_zeros (suc d) p ≡ count_trailing_zeros (suc e) p
    go ih (inl h) = omega (arith, zeros-even d p h, zeros-even e p h, ih (omega arith))
    go ih (inr h) = omega (arith, zeros-odd (suc d) p h, zeros-odd (suc e) p h)

-- so many bits are enough
pub below-pow : (p : ℕ) → p < 2 ^ p
below-pow zero = omega arith
below-pow (suc p) = omega (arith, below-pow p, pow-succ' 2 p)

-- an odd place has no trailing zero bit
pub trail-odd : (p : ℕ) → p % 2 ≡ 1 → trail p ≡ 0
unfolding trail
trail-odd p e = zeros-odd p p e

-- an even place has one more than its half
pub trail-even : (p : ℕ) → 1 ≤ p → p % 2 ≡ 0 → trail p ≡ suc (trail (p / 2))
unfolding trail
trail-even zero b e = omega arith
trail-even (suc d) b e =
    let h : ℕ = suc d / 2 in
    zeros-even d (suc d) e ∙ ap suc (zeros-enough d h h (omega arith) (omega (arith, below-pow d)) (below-pow h))

-- a count of d bits finds all trailing zero bits of a p that has no more
pub trail-count : (d p : ℕ) → 1 ≤ p → p < 2 ^ d → count_trailing_zeros d p ≡ trail p
unfolding trail
trail-count d p a b = zeros-enough d p p a b (below-pow p)

-- a place of a tree with 2^k stops has less than k of them
pub trail-lt : (k p : ℕ) → 1 ≤ p → p < 2 ^ k → trail p < k
trail-lt zero p a b = omega arith
trail-lt (suc k) p a b = go (λ x. trail-lt k (p / 2) x (omega (arith, pow-succ' 2 k))) (parity p)
  where
    go : (1 ≤ p / 2 → trail (p / 2) < k) → (p % 2 ≡ 0) ⊎ (p % 2 ≡ 1) → trail p < suc k
    go ih (inl h) = omega (arith, trail-even p a h, ih (omega arith))
    go ih (inr h) = omega (arith, trail-odd p h)

-- to halve a number, and then t times more
pub shr-suc : (a t : ℕ) → a / 2 ^ suc t ≡ a / 2 / 2 ^ t
shr-suc a t = rw (pow-succ', div-div-eq-div-mul)

-- p is an odd number times 2 to the number of its trailing zero bits
pub trail-split : (p : ℕ) → 1 ≤ p → (2 * (p / 2 ^ suc (trail p)) + 1) * 2 ^ trail p ≡ p
trail-split p b = go p p b (omega arith)
  where
    step : (d p : ℕ) → (1 ≤ p / 2 → (2 * (p / 2 / 2 ^ suc (trail (p / 2))) + 1) * 2 ^ trail (p / 2) ≡ p / 2)
        → 1 ≤ p → (p % 2 ≡ 0) ⊎ (p % 2 ≡ 1) → (2 * (p / 2 ^ suc (trail p)) + 1) * 2 ^ trail p ≡ p
    step d p ih b (inl h) =
        let t : ℕ = trail (p / 2) in
        let A : ℕ = 2 * (p / 2 / 2 ^ suc t) + 1 in
        rw (trail-even p b h, shr-suc p (suc t)) (ap (λ x. A * x) (pow-succ' 2 t) ∙ mul_left_comm A 2 (2 ^ t) ∙ omega (arith, ih (omega arith)))
    step d p ih b (inr h) = rw (trail-odd p h) (omega arith)

    go : (d p : ℕ) → 1 ≤ p → p ≤ d → (2 * (p / 2 ^ suc (trail p)) + 1) * 2 ^ trail p ≡ p
    go zero p b c = omega arith
    go (suc d) p b c = step d p (λ x. go d (p / 2) x (omega arith)) b (parity p)

-- an odd number times 2^t has t trailing zero bits
pub trail-join : (q t : ℕ) → trail ((2 * q + 1) * 2 ^ t) ≡ t
trail-join q zero = trail-odd _ (omega arith)
trail-join q (suc t) =
    let A : ℕ = 2 * q + 1 in
    let e : A * 2 ^ suc t ≡ 2 * (A * 2 ^ t) = ap (λ x. A * x) (pow-succ' 2 t) ∙ mul_left_comm A 2 (2 ^ t) in
    let b : 1 ≤ A * 2 ^ t = one-le-mul (omega arith) (pow_pos t) in
    let h : A * 2 ^ suc t / 2 ≡ A * 2 ^ t = omega arith in
    trail-even (A * 2 ^ suc t) (omega arith) (omega arith) ∙ ap suc (rw h (trail-join q t))

-- the stops a and b lie below one fork whose sides have 2^t stops each, on two sides of it
pub record Beside (t a b : ℕ) : Type 0 where
  pub same : a / 2 ^ suc t ≡ b / 2 ^ suc t
  pub apart : a / 2 ^ t ≢ b / 2 ^ t

-- one depth more below a and b
pub beside-up : (t a b : ℕ) → Beside t (a / 2) (b / 2) → Beside (suc t) a b
beside-up t a b h = record { same = rw (shr-suc a (suc t), shr-suc b (suc t)) h.same; apart = rw (shr-suc a t, shr-suc b t) h.apart }

-- one depth less
pub beside-down : (t a b : ℕ) → Beside (suc t) a b → Beside t (a / 2) (b / 2)
beside-down t a b h = record { same = rw (shr-suc a (suc t), shr-suc b (suc t)) at h.same; apart = rw (shr-suc a t, shr-suc b t) at h.apart }

-- at t = 0: two numbers with one half that differ
pub beside-zero : (a b : ℕ) → a / 2 ≡ b / 2 → a ≢ b → Beside 0 a b
beside-zero a b h k = record { same = h; apart = rw (div-one a, div-one b) k }

-- and back: they have one half
pub beside-zero-same : (a b : ℕ) → Beside 0 a b → a / 2 ≡ b / 2
beside-zero-same a b h = h.same

-- and differ
pub beside-zero-apart : (a b : ℕ) → Beside 0 a b → a ≢ b
beside-zero-apart a b h = λ e. h.apart (ap (λ x. x / 2 ^ 0) e)

-- the reach of a place that is not 0
pub reach_of-pos : (p : ℕ) → 0 < p → reach_of p ≡ reach p
unfolding reach_of
reach_of-pos zero b = omega arith
reach_of-pos (suc p) b = refl
