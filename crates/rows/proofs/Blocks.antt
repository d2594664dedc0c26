-- Aligned blocks of places and stops: inside a block each stop's candidates are in the block; which they are, and the trailing zero bits of places.
use mathlib.Core.Path.{◌≡◌, sym, ap, ◌∙◌}
use mathlib.Core.Logic.{◌⊎◌, inl, inr}
use Prim.Native.Nat.{ℕ, zero, suc, ◌+◌, ◌*◌, ◌-◌, ◌/◌, ◌%◌, ◌^◌, ◌≤◌, ◌<◌}
use native.Mathlib.Nat.{div-one, mul-one, pow-succ', mul_left_comm, mul_assoc, add-mul, one-mul}
use native.Mathlib.Decide.{dec_le}
use native.Mathlib.Omega.{arith}
use lib.Bits.{bit_xor}
use lib.Pow.{pow_pos, pow_mono}
use Rattle.tree.specs.Neighbour.{trail}
use Rattle.tree.specs.Block.{beside_of}
use Rattle.tree.proofs.Beside.{parity, trail-odd, trail-even, shr-suc}
use Rattle.tree.proofs.Block.{xor-one, block_of, block-only, beside-block, beside-in-block, trail-inside}
use Rattle.rows.specs.Pass.{AlignedBlock, BlockClosed}

-- a block of at most 1,024 has m up to 10
pub aligned-small : {n start m : ℕ} → AlignedBlock n start m → n ≤ 1024 → m ≤ 10
aligned-small {n} {start} {m} a h = go (dec_le m 10)
  where
    go : Dec (m ≤ 10) → m ≤ 10
    go (yes x) = x
    go (no x) = absurd (omega (arith, pow_mono {i = 11} {j = m} (omega arith), a.inside))

-- a stop of an aligned block has the block's number
pub in_block : {n base m : ℕ} (a : AlignedBlock n base m) (i : ℕ) → base ≤ i → i < base + 2 ^ m → i / 2 ^ m ≡ a.number
in_block {m = m} a i l h = block-only m i a.number (omega (arith, a.starts)) (omega (arith, a.starts))

-- and every number with that quotient is in it
pub of-block : {n base m : ℕ} (a : AlignedBlock n base m) (i : ℕ) → i / 2 ^ m ≡ a.number → (base ≤ i) × (i < base + 2 ^ m)
of-block {m = m} a i e =
    let b = rw e at (block_of m i) in
    (omega (arith, a.starts, b.0), omega (arith, a.starts, b.1))

-- an aligned block holds the candidates of its stops
pub closed : {n base m : ℕ} (t : ℕ) → AlignedBlock n base m → t < m → BlockClosed t base (2 ^ m)
closed {base = base} {m = m} t a l = record { low = low; high = high }
  where
    near : (i : ℕ) → base ≤ i → i < base + 2 ^ m → (d : ℕ) → d < 2 ^ t → (beside_of i t + d) / 2 ^ m ≡ a.number
    near i x y d z =
        beside-in-block t m (beside_of i t + d) i l ((beside-block t (beside_of i t + d) i).1 (omega arith, omega arith)) ∙ in_block a i x y

    low : (i : ℕ) → base ≤ i → i < base + 2 ^ m → base ≤ beside_of i t
    low i x y = omega (arith, (of-block a (beside_of i t + 0) (near i x y 0 (pow_pos t))).0)

    high : (i : ℕ) → base ≤ i → i < base + 2 ^ m → beside_of i t + 2 ^ t ≤ base + 2 ^ m
    high i x y = omega (arith, pow_pos t, (of-block a (beside_of i t + (2 ^ t - 1)) (near i x y (2 ^ t - 1) (omega (arith, pow_pos t)))).1)

-- a block of 2 or more places starts at an even place
pub aligned-even : {n start m : ℕ} → AlignedBlock n start m → 0 < m → start % 2 ≡ 0
aligned-even {start = start} {m = zero} a h = absurd (omega arith)
aligned-even {start = start} {m = suc m} a h =
    let e : a.number * 2 ^ suc m ≡ 2 * (a.number * 2 ^ m) = ap (λ x. a.number * x) (pow-succ' 2 m) ∙ mul_left_comm a.number 2 (2 ^ m) in
    omega (arith, a.starts)

-- so the next place has no trailing zero bits
pub trail-odd-block : {n start m : ℕ} → AlignedBlock n start m → 0 < m → trail (start + 1) ≡ 0
trail-odd-block {start = start} a h = trail-odd (start + 1) (omega (arith, aligned-even a h))

-- a block of 2 or more has two halves
pub pow-half : (m : ℕ) → 0 < m → 2 ^ m ≡ 2 * 2 ^ (m - 1)
pow-half zero h = absurd (omega arith)
pow-half (suc m) h = let e : suc m - 1 ≡ m = omega arith in rw e (pow-succ' 2 m)

-- the two halves of an aligned block are aligned
module _ {n start m : ℕ} (a : AlignedBlock n start m) (two : 0 < m) where
  -- twice as many blocks of half the size
  twice : a.number * 2 ^ m ≡ 2 * a.number * 2 ^ (m - 1)
  twice = ap (λ x. a.number * x) (pow-half m two) ∙ mul_left_comm a.number 2 (2 ^ (m - 1)) ∙ sym (mul_assoc 2 a.number (2 ^ (m - 1)))

  -- the first half
  pub first-half : AlignedBlock n start (m - 1)
  first-half = record { number = 2 * a.number; starts = a.starts ∙ twice; inside = omega (arith, a.inside, pow-half m two) }

  -- the second
  pub second-half : AlignedBlock n (start + 2 ^ (m - 1)) (m - 1)
  second-half = record {
    number = 2 * a.number + 1;
    starts = omega (arith, a.starts, twice, add-mul (2 * a.number) 1 (2 ^ (m - 1)), one-mul (2 ^ (m - 1)));
    inside = omega (arith, a.inside, pow-half m two);
  }

-- where t is 0 an even stop and the next are beside each other
pub beside_even : (b : ℕ) → b % 2 ≡ 0 → beside_of b 0 ≡ b + 1
unfolding beside_of
beside_even b e = rw (div-one, mul-one) (omega (arith, xor-one b))

pub beside_odd : (b : ℕ) → b % 2 ≡ 0 → beside_of (b + 1) 0 ≡ b
unfolding beside_of
beside_odd b e = rw (div-one, mul-one) (omega (arith, xor-one (b + 1)))

-- so are the pairs of four
pub beside_none : (b : ℕ) → b % 4 ≡ 0 → (beside_of b 0 ≡ b + 1) × (beside_of (b + 1) 0 ≡ b) × (beside_of (b + 2) 0 ≡ b + 3) × (beside_of (b + 3) 0 ≡ b + 2)
beside_none b e =
    let top : b + 3 ≡ b + 2 + 1 = omega arith in
    (beside_even b (omega arith), beside_odd b (omega arith), rw top (beside_even (b + 2) (omega arith)), rw top (beside_odd (b + 2) (omega arith)))

-- where t is 1 the first two of four are beside the others
beside-low : (b i : ℕ) → b % 4 ≡ 0 → b ≤ i → i < b + 2 → beside_of i 1 ≡ b + 2
unfolding beside_of
beside-low b i e l h =
    let half : i / 2 ≡ 2 * (b / 4) = omega arith in
    let x : bit_xor (2 * (b / 4)) 1 ≡ 2 * (b / 4) + 1 = omega (arith, xor-one (2 * (b / 4))) in
    rw (half, x) (omega arith)

-- and they are beside the first two
beside-high : (b i : ℕ) → b % 4 ≡ 0 → b + 2 ≤ i → i < b + 4 → beside_of i 1 ≡ b
unfolding beside_of
beside-high b i e l h =
    let half : i / 2 ≡ 2 * (b / 4) + 1 = omega arith in
    let x : bit_xor (2 * (b / 4) + 1) 1 ≡ 2 * (b / 4) = omega (arith, xor-one (2 * (b / 4) + 1)) in
    rw (half, x) (omega arith)

-- so are the halves of four
pub beside-one : (b : ℕ) → b % 4 ≡ 0 → (beside_of b 1 ≡ b + 2) × (beside_of (b + 1) 1 ≡ b + 2) × (beside_of (b + 2) 1 ≡ b) × (beside_of (b + 3) 1 ≡ b)
beside-one b e = (
  beside-low b b e (omega arith) (omega arith),
  beside-low b (b + 1) e (omega arith) (omega arith),
  beside-high b (b + 2) e (omega arith) (omega arith),
  beside-high b (b + 3) e (omega arith) (omega arith),
)

-- and from t = 2 on four have the same candidates
pub beside-four : (b i t : ℕ) → b % 4 ≡ 0 → b ≤ i → i < b + 4 → 2 ≤ t → beside_of i t ≡ beside_of b t
unfolding beside_of
beside-four b i zero e l h two = absurd (omega arith)
beside-four b i (suc zero) e l h two = absurd (omega arith)
beside-four b i (suc (suc t)) e l h two =
    let quarter : i / 2 / 2 ≡ b / 2 / 2 = omega arith in
    rw (shr-suc i (suc t), shr-suc b (suc t), shr-suc (i / 2) t, shr-suc (b / 2) t, quarter)

-- a multiple of 4 that is not 0
quarter-pos : (p q : ℕ) → p ≡ 4 * q → 0 < p → 1 ≤ q
quarter-pos p zero e h = absurd (omega arith)
quarter-pos p (suc q) e h = omega arith

-- a place that is a multiple of 4 has 2 or more trailing zero bits
pub trail-four : (p : ℕ) → p % 4 ≡ 0 → 0 < p → 2 ≤ trail p
trail-four p four h =
    let e : p ≡ 4 * (p / 4) = omega arith in
    let half : p / 2 ≡ 2 * (p / 4) = omega arith in
    let pos : 1 ≤ p / 4 = quarter-pos p (p / 4) e h in
    let even : p / 2 % 2 ≡ 0 = rw half (omega arith) in
    omega (arith, trail-even p (omega arith) (omega arith), trail-even (p / 2) (omega arith) even)

-- the three places after it, from p on, have none, one and none
module _ (p : ℕ) (one : p % 4 ≡ 1) where
  pub trail_first : trail p ≡ 0
  trail_first = trail-odd p (omega arith)

  pub trail_second : trail (p + 1) ≡ 1
  trail_second =
      let half : (p + 1) / 2 ≡ 2 * (p / 4) + 1 = omega arith in
      trail-even (p + 1) (omega arith) (omega arith) ∙ ap suc (trail-odd ((p + 1) / 2) (rw half (omega arith)))

  pub trail_third : trail (p + 2) ≡ 0
  trail_third = trail-odd (p + 2) (omega arith)

-- a place inside an aligned block has the trailing zero bits of its number in the block
pub trail-same : (a m d : ℕ) → 0 < d → d < 2 ^ m → trail (a * 2 ^ m + d) ≡ trail d
trail-same a zero d l h = absurd (omega arith)
trail-same a (suc m) d l h = go (λ x. trail-same a m (d / 2) x (omega (arith, pow-succ' 2 m))) (parity d)
  where
    twice : a * 2 ^ suc m ≡ 2 * (a * 2 ^ m)
    twice = ap (λ x. a * x) (pow-succ' 2 m) ∙ mul_left_comm a 2 (2 ^ m)

    go : (0 < d / 2 → trail (a * 2 ^ m + d / 2) ≡ trail (d / 2)) → (d % 2 ≡ 0) ⊎ (d % 2 ≡ 1) → trail (a * 2 ^ suc m + d) ≡ trail d
    go ih (inl e) =
        let half : (a * 2 ^ suc m + d) / 2 ≡ a * 2 ^ m + d / 2 = omega (arith, twice) in
        trail-even (a * 2 ^ suc m + d) (omega arith) (omega (arith, twice)) ∙ rw half (ap suc (ih (omega arith))) ∙ sym (trail-even d l e)
    go ih (inr e) = trail-odd (a * 2 ^ suc m + d) (omega (arith, twice)) ∙ sym (trail-odd d e)

-- a block of 4 or more is a multiple of 4
pub pow-four : (m : ℕ) → 2 ≤ m → 2 ^ m % 4 ≡ 0
pow-four zero h = absurd (omega arith)
pow-four (suc zero) h = absurd (omega arith)
pow-four (suc (suc m)) h = let e : 2 ^ suc (suc m) ≡ 4 * 2 ^ m = omega (arith, pow-succ' 2 (suc m), pow-succ' 2 m) in rw e (omega arith)

-- and starts at one
pub aligned-four : {n start m : ℕ} → AlignedBlock n start m → 2 ≤ m → start % 4 ≡ 0
aligned-four {m = zero} a h = absurd (omega arith)
aligned-four {m = suc zero} a h = absurd (omega arith)
aligned-four {start = start} {m = suc (suc m)} a h =
    let e : 2 ^ suc (suc m) ≡ 4 * 2 ^ m = omega (arith, pow-succ' 2 (suc m), pow-succ' 2 m) in
    let f : a.number * 2 ^ suc (suc m) ≡ 4 * (a.number * 2 ^ m) = ap (λ x. a.number * x) e ∙ mul_left_comm a.number 4 (2 ^ m) in
    let g : start ≡ 4 * (a.number * 2 ^ m) = a.starts ∙ f in
    rw g (omega arith)

-- under another name for t
pub closed-as : {t t' base size : ℕ} → t ≡ t' → BlockClosed t base size → BlockClosed t' base size
closed-as e b = rw (← e) b

-- the numbers of a block of 8 or more places from `left` on, and as many stops from `base` on: both are multiples of 4
pub record Large (n left base m half : ℕ) : Type 0 where
  pub whole : 2 * half ≡ 2 ^ m
  pub places : left % 4 ≡ 0
  pub stops : base % 4 ≡ 0
  pub fours : half % 4 ≡ 0
  pub four : 4 ≤ half
  pub end : left + 2 * half ≤ n
  pub inside : base + 2 * half ≤ n
  pub closed : (p : ℕ) → left < p → p < left + 2 * half → BlockClosed (trail p) base (2 * half)

-- a block of 8 or more has them
pub large : {n left base m half : ℕ} → 2 < m → AlignedBlock n left m → AlignedBlock n base m → half ≡ 2 ^ (m - 1) → Large n left base m half
large {n} {left} {base} {m} {half} h a b e = record {
  whole = whole;
  places = aligned-four a (omega arith);
  stops = aligned-four b (omega arith);
  fours = rw e (pow-four (m - 1) (omega arith));
  four = omega (arith, pow_mono {i = 2} {j = m - 1} (omega arith));
  end = omega (arith, whole, a.inside);
  inside = omega (arith, whole, b.inside);
  closed = λ p x y. rw whole (near p x (omega (arith, whole)));
}
  where
    whole : 2 * half ≡ 2 ^ m
    whole = omega (arith, pow-half m (omega arith))

    near : (p : ℕ) → left < p → p < left + 2 ^ m → BlockClosed (trail p) base (2 ^ m)
    near p x y =
        let at : p ≡ a.number * 2 ^ m + (p - left) = omega (arith, a.starts) in
        closed (trail p) b (rw at (trail-inside a.number m (p - left) (omega arith) (omega arith)))
