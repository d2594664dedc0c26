-- Laws of rounding to the nearest whole number. m is near p / q if twice the difference is at most q: if 2p and 2mq differ by at most q. The rounded
-- number is near; another number is near at an exact half alone, and then the rounded one is even. That it grows with p and is at most p
-- follows from nearness.
use mathlib.Core.Path.{◌≡◌, refl, sym}
use mathlib.Core.Bool.{Bool, true, false, cond}
use Prim.Native.Nat.{ℕ, zero, suc, ◌+◌, ◌*◌, ◌/◌, ◌%◌, ◌≤◌, ◌<◌}
use native.Mathlib.Decide.{dec_lt}
use native.Mathlib.Nat.{div-add-mod', mod-lt, mul-le-mul_left, mul-le-mul_right, suc-mul, mul-one}
use native.Mathlib.Numerals.{add-one}
use native.Mathlib.Omega.{arith}
use lib.Dec.{ltb}
use borrow.Author.Tests.{ltb-true, ltb-false}
use Rattle.times.specs.Time.{nearest}

-- 'twice the difference is at most q'
pub record Near (p q m : ℕ) : Type 0 where
  pub below : 2 * p ≤ 2 * (m * q) + q
  pub above : 2 * (m * q) ≤ 2 * p + q

-- ---- by the whole part f and the rest r

one_more : (f q : ℕ) → (f + 1) * q ≡ f * q + q
one_more f q = rw add-one (suc-mul f q)

-- which number it is: the whole part, one more, or the even one of the two
data Rounded (q f r : ℕ) : ℕ → Type 0 where
  down : 2 * r < q → Rounded q f r f
  up : q < 2 * r → Rounded q f r (f + 1)
  half : 2 * r ≡ q → Rounded q f r (f + f % 2)

pick : (q f r : ℕ) → Rounded q f r (cond (ltb (2 * r) q) f (cond (ltb q (2 * r)) (f + 1) (f + f % 2)))
pick q f r = by (ltb (2 * r) q) refl (ltb q (2 * r)) refl
  where
    by : (a : Bool) → ltb (2 * r) q ≡ a → (b : Bool) → ltb q (2 * r) ≡ b → Rounded q f r (cond a f (cond b (f + 1) (f + f % 2)))
    by true e b x = down (ltb-true (2 * r) q e)
    by false e true x = up (ltb-true q (2 * r) x)
    by false e false x = let low = ltb-false (2 * r) q e in let high = ltb-false q (2 * r) x in half (omega arith)

rounded : (p q : ℕ) → Rounded q (p / q) (p % q) (nearest p q)
unfolding nearest
rounded p q = pick q (p / q) (p % q)

module _ (p q f r : ℕ) (parts : f * q + r ≡ p) (small : r < q) where
  -- at a half both numbers are near
  near-half : (e : ℕ) → 2 * r ≡ q → e < 2 → Near p q (f + e)
  near-half zero h b = record { below = omega arith; above = omega arith }
  near-half (suc zero) h b = let more = one_more f q in record { below = omega arith; above = omega arith }
  near-half (suc (suc e)) h b = absurd (omega arith)

  near_by : (m : ℕ) → Rounded q f r m → Near p q m
  near_by m (down h) = record { below = omega arith; above = omega arith }
  near_by m (up h) = let more = one_more f q in record { below = omega arith; above = omega arith }
  near_by m (half h) = near-half (f % 2) h (omega arith)

-- it is near
pub nearest-near : (p q : ℕ) → 1 ≤ q → Near p q (nearest p q)
nearest-near p q h = near_by p q (p / q) (p % q) (div-add-mod' p q) (mod-lt p h) (nearest p q) (rounded p q)

-- ---- no other number is nearer

-- of two near numbers the larger is one more, at an exact half
module _ (p q m n : ℕ) (positive : 1 ≤ q) (first : Near p q m) (second : Near p q n) (larger : m < n) where
  -- the products differ by q at least
  apart : m * q + q ≤ n * q
  apart = rw (sym (suc-mul m q)) (mul-le-mul_right q larger)

  pub two-near : 2 * p ≡ 2 * (m * q) + q
  two-near = let a = apart in let lo = first.below in let hi = second.above in omega arith

-- 'and of two nearest the even one': where another number is near too, the rounded one is even
pub nearest-even : (p q m : ℕ) → 1 ≤ q → Near p q m → (m ≡ nearest p q → ⊥) → nearest p q % 2 ≡ 0
nearest-even p q m h near other = by (dec_lt m (nearest p q))
  where
    exact : (n : ℕ) → Rounded q (p / q) (p % q) n → 2 * p ≡ 2 * (n * q) + q → n % 2 ≡ 0
    exact n (down x) e = let parts = div-add-mod' p q in absurd (omega arith)
    exact n (up x) e = let parts = div-add-mod' p q in let more = one_more (p / q) q in absurd (omega (arith, mod-lt p h))
    exact n (half x) e = omega arith

    exact' : (n : ℕ) → Rounded q (p / q) (p % q) n → 2 * p + q ≡ 2 * (n * q) → n % 2 ≡ 0
    exact' n (down x) e = let parts = div-add-mod' p q in absurd (omega arith)
    exact' n (up x) e = let parts = div-add-mod' p q in let more = one_more (p / q) q in absurd (omega arith)
    exact' n (half x) e = omega arith

    by : Dec (m < nearest p q) → nearest p q % 2 ≡ 0
    by (yes l) =
        let t = two-near p q m (nearest p q) h near (nearest-near p q h) l in
        let a = apart p q m (nearest p q) h near (nearest-near p q h) l in
        exact' (nearest p q) (rounded p q) (omega (arith, (nearest-near p q h).above))
    by (no l) = exact (nearest p q) (rounded p q) (two-near p q (nearest p q) m h (nearest-near p q h) near (omega arith))

-- ---- what a reader expects of rounding

-- it grows with p
pub nearest-grows : (p p' q : ℕ) → 1 ≤ q → p ≤ p' → nearest p q ≤ nearest p' q
nearest-grows p p' q h le = by (dec_lt (nearest p' q) (nearest p q)) (dec_lt p p')
  where
    by : Dec (nearest p' q < nearest p q) → Dec (p < p') → nearest p q ≤ nearest p' q
    by (no l) d = omega arith
    by (yes l) (yes s) =
        let apart : nearest p' q * q + q ≤ nearest p q * q = rw (sym (suc-mul (nearest p' q) q)) (mul-le-mul_right q l) in
        absurd (omega (arith, (nearest-near p q h).above, (nearest-near p' q h).below))
    by (yes l) (no s) = let same : p ≡ p' = omega arith in rw same (omega arith)

-- it is at most p
pub nearest-le : (p q : ℕ) → 1 ≤ q → nearest p q ≤ p
nearest-le p q h = by (dec_lt p (nearest p q))
  where
    by : Dec (p < nearest p q) → nearest p q ≤ p
    by (no l) = omega arith
    by (yes l) =
        let apart : p * q + q ≤ nearest p q * q = rw (sym (suc-mul p q)) (mul-le-mul_right q l) in
        let more : p * 1 ≤ p * q = mul-le-mul_left p h in
        absurd (omega (arith, (nearest-near p q h).above, mul-one p))

-- a whole number is itself
pub nearest-whole : (m q : ℕ) → 1 ≤ q → nearest (m * q) q ≡ m
nearest-whole m q h = by (dec_lt m (nearest (m * q) q)) (dec_lt (nearest (m * q) q) m)
  where
    by : Dec (m < nearest (m * q) q) → Dec (nearest (m * q) q < m) → nearest (m * q) q ≡ m
    by (yes l) d =
        let apart : m * q + q ≤ nearest (m * q) q * q = rw (sym (suc-mul m q)) (mul-le-mul_right q l) in
        absurd (omega (arith, (nearest-near (m * q) q h).above))
    by (no l) (yes s) =
        let apart : nearest (m * q) q * q + q ≤ m * q = rw (sym (suc-mul (nearest (m * q) q) q)) (mul-le-mul_right q s) in
        absurd (omega (arith, (nearest-near (m * q) q h).below))
    by (no l) (no s) = omega arith

-- ---- for the code

-- one comparison tells: where the whole part is odd, a half is enough to go up
pub nearest-up : (p q : ℕ) → 1 ≤ q → q < 2 * (p % q) + p / q % 2 → p / q + 1 ≡ nearest p q
nearest-up p q h t = by (nearest p q) (rounded p q)
  where
    by : (n : ℕ) → Rounded q (p / q) (p % q) n → p / q + 1 ≡ n
    by n (down x) = absurd (omega arith)
    by n (up x) = refl
    by n (half x) = omega arith

pub nearest-down : (p q : ℕ) → 1 ≤ q → 2 * (p % q) + p / q % 2 ≤ q → p / q ≡ nearest p q
nearest-down p q h t = by (nearest p q) (rounded p q)
  where
    by : (n : ℕ) → Rounded q (p / q) (p % q) n → p / q ≡ n
    by n (down x) = refl
    by n (up x) = absurd (omega arith)
    by n (half x) = omega arith
