-- The aligned blocks of stops: the candidates before a stop are the block beside its own (Lemma 3), and an aligned block of places holds
-- an aligned block of stops (Lemma 5).
use mathlib.Core.Path.{◌≡◌, sym, ap, ◌∙◌}
use mathlib.Core.Bool.{true}
use mathlib.Core.Logic.{◌≢◌, ◌↔◌, ◌⊎◌, inl, inr}
use Prim.Native.Nat.{ℕ, zero, suc, ◌+◌, ◌*◌, ◌-◌, ◌/◌, ◌%◌, ◌^◌, ◌≤◌, ◌<◌}
use native.Mathlib.Nat.{pow-succ', div-add-mod', mod-lt, mul_left_comm, one-le-mul, div-eq_of_lt-le, add-mul, one-mul}
use native.Mathlib.Omega.{arith}
use lib.Bits.{bit_xor, differ, xor_step, xor_zero_r}
use lib.Pow.{pow_pos, shr-shr}
use Rattle.tree.specs.Neighbour.{trail, may_follow}
use Rattle.tree.specs.Block.{beside_of}
use Rattle.tree.proofs.Beside.{Beside, parity, trail-odd, trail-even}
use Rattle.tree.proofs.Bit.{shr-half}
use Rattle.tree.proofs.Theorem7.{near-beside}
use Rattle.tree.proofs.Graph.{may_follow-iff}

-- the other one of a pair
pub xor-one : (x : ℕ) → bit_xor x 1 ≡ 2 * (x / 2) + (1 - x % 2)
xor-one x = xor_step x 1 ∙ rw (xor_zero_r (x / 2)) (go (parity x))
  where
    go : (x % 2 ≡ 0) ⊎ (x % 2 ≡ 1) → x / 2 * 2 + differ (x % 2) 1 ≡ 2 * (x / 2) + (1 - x % 2)
    go (inl h) = rw h (omega arith)
    go (inr h) = rw h (omega arith)

-- a number is in the aligned block of its quotient
pub block_of : (t a : ℕ) → (a / 2 ^ t * 2 ^ t ≤ a) × (a < a / 2 ^ t * 2 ^ t + 2 ^ t)
block_of t a = (omega (arith, div-add-mod' a (2 ^ t)), omega (arith, div-add-mod' a (2 ^ t), mod-lt a (pow_pos t)))

-- and in no other
pub block-only : (t a x : ℕ) → x * 2 ^ t ≤ a → a < x * 2 ^ t + 2 ^ t → a / 2 ^ t ≡ x
block-only t a x l h = div-eq_of_lt-le (2 ^ t) l (omega (arith, add-mul x 1 (2 ^ t), one-mul (2 ^ t)))

-- a stands beside b exactly if it is in the block of 2^t stops beside b's
pub beside-block : (t a b : ℕ) → Beside t a b ↔ ((beside_of b t ≤ a) × (a < beside_of b t + 2 ^ t))
unfolding beside_of
beside-block t a b = (there, back)
  where
    there : Beside t a b → (bit_xor (b / 2 ^ t) 1 * 2 ^ t ≤ a) × (a < bit_xor (b / 2 ^ t) 1 * 2 ^ t + 2 ^ t)
    there h =
        let s : a / 2 ^ t / 2 ≡ b / 2 ^ t / 2 = shr-half a t ∙ h.same ∙ sym (shr-half b t) in
        let d : a / 2 ^ t ≢ b / 2 ^ t = h.apart in
        let e : a / 2 ^ t ≡ bit_xor (b / 2 ^ t) 1 = omega (arith, xor-one (b / 2 ^ t)) in
        rw (← e) (block_of t a)

    back : (bit_xor (b / 2 ^ t) 1 * 2 ^ t ≤ a) × (a < bit_xor (b / 2 ^ t) 1 * 2 ^ t + 2 ^ t) → Beside t a b
    back h =
        let e : a / 2 ^ t ≡ bit_xor (b / 2 ^ t) 1 = block-only t a (bit_xor (b / 2 ^ t) 1) h.0 h.1 in
        let s : a / 2 ^ t / 2 ≡ b / 2 ^ t / 2 = omega (arith, xor-one (b / 2 ^ t)) in
        record { same = sym (shr-half a t) ∙ s ∙ shr-half b t; apart = λ x. absurd (omega (arith, xor-one (b / 2 ^ t))) }

-- LEMMA 3: the stops that may come before b in place p are the block of r beside b's
pub may_follow-block : (p a b : ℕ) → (may_follow p a b ≡ true) ↔ ((beside_of b (trail p) ≤ a) × (a < beside_of b (trail p) + 2 ^ trail p))
may_follow-block p a b = (
  λ h. (beside-block (trail p) a b).0 ((near-beside p a b).0 ((may_follow-iff p a b).0 h)),
  λ h. (may_follow-iff p a b).1 ((near-beside p a b).1 ((beside-block (trail p) a b).1 h)),
)

-- what agrees from bit j on agrees from any higher bit on
agree-above : (j d a b : ℕ) → a / 2 ^ j ≡ b / 2 ^ j → a / 2 ^ (j + d) ≡ b / 2 ^ (j + d)
agree-above j d a b h = rw (← shr-shr a j d, ← shr-shr b j d, h)

-- stops that stand beside each other below bit m are in one block of 2^m
pub beside-in-block : (t m a b : ℕ) → t < m → Beside t a b → a / 2 ^ m ≡ b / 2 ^ m
beside-in-block t m a b l h =
    let e : m ≡ suc t + (m - suc t) = omega arith in
    rw e (agree-above (suc t) (m - suc t) a b h.same)

-- beside which block a stop stands is decided by the bits from t on
pub beside-by-block : (t m q a b : ℕ) → m ≤ t → a / 2 ^ m ≡ b / 2 ^ m → Beside t q a → Beside t q b
beside-by-block t m q a b l e h =
    let f : t ≡ m + (t - m) = omega arith in
    let g : suc t ≡ m + (suc t - m) = omega arith in
    let x : a / 2 ^ t ≡ b / 2 ^ t = rw f (agree-above m (t - m) a b e) in
    let y : a / 2 ^ suc t ≡ b / 2 ^ suc t = rw g (agree-above m (suc t - m) a b e) in
    record { same = h.same ∙ y; apart = λ z. h.apart (z ∙ sym x) }

-- the places inside an aligned block of 2^m places, but for the first, have fewer than m trailing zero bits
pub trail-inside : (a m d : ℕ) → 0 < d → d < 2 ^ m → trail (a * 2 ^ m + d) < m
trail-inside a zero d l h = absurd (omega arith)
trail-inside a (suc m) d l h = go (λ x. trail-inside a m (d / 2) x (omega (arith, pow-succ' 2 m))) (parity d)
  where
    twice : a * 2 ^ suc m ≡ 2 * (a * 2 ^ m)
    twice = ap (λ x. a * x) (pow-succ' 2 m) ∙ mul_left_comm a 2 (2 ^ m)

    go : (0 < d / 2 → trail (a * 2 ^ m + d / 2) < m) → (d % 2 ≡ 0) ⊎ (d % 2 ≡ 1) → trail (a * 2 ^ suc m + d) < suc m
    go ih (inl e) =
        let half : (a * 2 ^ suc m + d) / 2 ≡ a * 2 ^ m + d / 2 = omega (arith, twice) in
        rw (trail-even (a * 2 ^ suc m + d) (omega arith) (omega (arith, twice)), half) (omega (arith, ih (omega arith)))
    go ih (inr e) = rw (trail-odd (a * 2 ^ suc m + d) (omega (arith, twice))) (omega arith)

-- and its first place has m or more, unless it is place 0
pub trail-aligned : (a m : ℕ) → 0 < a → m ≤ trail (a * 2 ^ m)
trail-aligned a zero l = omega arith
trail-aligned a (suc m) l =
    let twice : a * 2 ^ suc m ≡ 2 * (a * 2 ^ m) = ap (λ x. a * x) (pow-succ' 2 m) ∙ mul_left_comm a 2 (2 ^ m) in
    let pos : 1 ≤ a * 2 ^ m = one-le-mul l (pow_pos m) in
    let half : a * 2 ^ suc m / 2 ≡ a * 2 ^ m = omega arith in
    rw (trail-even (a * 2 ^ suc m) (omega arith) (omega arith), half) (omega (arith, trail-aligned a m l))
