-- A set of stops as a number: bit i is stop i. Whether a group of stops has one that is in the set, how many are, and the set that bytes say.
use mathlib.Core.Path.{◌≡◌, refl, sym, ap, ap₂, ◌∙◌, fun_ext}
use mathlib.Core.Bool.{Bool, true, false, cond}
use mathlib.Core.Logic.{◌⊎◌, inl, inr}
use Prim.Native.Nat.{ℕ, zero, suc, ◌+◌, ◌*◌, ◌-◌, ◌/◌, ◌%◌, ◌^◌, ◌≤◌, ◌<◌}
use native.Mathlib.Nat.{pow-succ', mul_left_comm, one-mul, zero-mul, add-zero, zero-add}
use native.Mathlib.Decide.{dec_lt}
use native.Mathlib.Numerals.{add-one}
use native.Mathlib.Omega.{arith}
use borrow.Author.Tests.{eq-eqb, eqb-true, lt-ltb, ltb-true}
use lib.Count.{ones, ones_step}
use lib.Dec.{eqb, ltb}
use lib.Pow.{mod-pow-add, shr-shr}
use Rattle.tree.specs.Block.{beside_of}
use Rattle.tree.specs.Fork.{bit}
use Rattle.tree.proofs.Beside.{parity}
use Rattle.tree.proofs.Bit.{bit-zero, bit-suc, num_of, bit-num_of, num_of-lt, bit-ext}
use Rattle.tree.proofs.Block.{beside-block}
use Rattle.orders.proofs.Bits.{bit_past}
use Rattle.filled.specs.Forks.{filled_below, above}
use Rattle.filled.specs.Row.{in_set}
use Rattle.filled.specs.Table.{sibling}
use Rattle.filled.proofs.Arranged.{count_in}
use Rattle.filled.proofs.Bools.{same_test}
use Rattle.filled.proofs.Levels.{Level, level-sibling, sibling-beside, beside-sibling, filled-stop, stop-filled}

-- ---- the lowest d bits of a number

low_step : (X d : ℕ) → X % 2 ^ suc d ≡ X / 2 % 2 ^ d * 2 + X % 2
low_step X d = ap (λ e. X % 2 ^ e) (sym (add-one d)) ∙ mod-pow-add X d 1

-- they are not all 0
low-some : (d X : ℕ) → 0 < X % 2 ^ d → (j : ℕ) × (j < d) × (bit X j ≡ 1)
low-some zero X h = absurd (omega arith)
low-some (suc d) X h = go (parity X) (λ g. low-some d (X / 2) g)
  where
    go : (X % 2 ≡ 0) ⊎ (X % 2 ≡ 1) → (0 < X / 2 % 2 ^ d → (j : ℕ) × (j < d) × (bit (X / 2) j ≡ 1)) → (j : ℕ) × (j < suc d) × (bit X j ≡ 1)
    go (inl e) ih = let r = ih (omega (arith, low_step X d)) in (suc r.0, omega (arith, r.1), bit-suc X r.0 ∙ r.2)
    go (inr e) ih = (0, omega arith, bit-zero X ∙ e)

-- one of them is 1
some-low : (d X j : ℕ) → j < d → bit X j ≡ 1 → 0 < X % 2 ^ d
some-low zero X j b e = absurd (omega arith)
some-low (suc d) X zero b e = omega (arith, low_step X d, bit-zero X)
some-low (suc d) X (suc j) b e = omega (arith, low_step X d, some-low d (X / 2) j (omega arith) (sym (bit-suc X j) ∙ e))

-- ---- groups

-- the group beside a stop
pub group-bits : (k F m i : ℕ) → m < k → i < 2 ^ k → ltb 0 (F / 2 ^ beside_of i m % 2 ^ 2 ^ m) ≡ filled_below k (in_set F) m (sibling k m i)
unfolding in_set
group-bits k F m i h b = same_test (ltb 0 (F / 2 ^ first % 2 ^ 2 ^ m)) (filled_below k (in_set F) m (sibling k m i)) there back
  where
    first : ℕ
    first = beside_of i m

    -- a stop of the group
    in_group : (j : ℕ) → first ≤ j → j < first + 2 ^ m → above k m j ≡ sibling k m i
    in_group j p q = beside-sibling k m j i h ((beside-block m j i).1 (p, q))

    level : Level k m (sibling k m i)
    level = level-sibling k m i h b

    there : ltb 0 (F / 2 ^ first % 2 ^ 2 ^ m) ≡ true → filled_below k (in_set F) m (sibling k m i) ≡ true
    there e =
        let r = low-some (2 ^ m) (F / 2 ^ first) (ltb-true _ _ e) in
        let j : ℕ = first + r.0 in
        let g : bit F j ≡ 1 = ap (λ x. x % 2) (sym (shr-shr F first r.0)) ∙ r.2 in
        stop-filled k (in_set F) m (sibling k m i) j level (in_group j (omega arith) (omega (arith, r.1))) (eq-eqb (bit F j) 1 g)

    back : filled_below k (in_set F) m (sibling k m i) ≡ true → ltb 0 (F / 2 ^ first % 2 ^ 2 ^ m) ≡ true
    back e =
        let r = filled-stop k (in_set F) m (sibling k m i) level e in
        let p = (beside-block m r.0 i).0 (sibling-beside k m r.0 i h r.1) in
        let j : ℕ = r.0 - first in
        let f : first + j ≡ r.0 = omega (arith, p.0) in
        let g : bit (F / 2 ^ first) j ≡ 1 = ap (λ x. x % 2) (shr-shr F first j ∙ ap (λ x. F / 2 ^ x) f) ∙ eqb-true (bit F r.0) 1 r.2 in
        lt-ltb 0 (F / 2 ^ first % 2 ^ 2 ^ m) (some-low (2 ^ m) (F / 2 ^ first) j (omega (arith, p.1, p.0)) g)

-- ---- the set that a test says

-- 1 where it holds
abbrev pub digit : (ℕ → Bool) → ℕ → ℕ
digit s i = cond (s i) 1 0

-- one stop more
set-suc : (f : ℕ → ℕ) (n : ℕ) → num_of f (suc n) ≡ num_of f n + f n % 2 * 2 ^ n
unfolding num_of
set-suc f zero = omega arith
set-suc f (suc n) =
    let e : f (suc n) % 2 * 2 ^ suc n ≡ 2 * (f (suc n) % 2 * 2 ^ n) = ap (λ x. f (suc n) % 2 * x) (pow-succ' 2 n) ∙ mul_left_comm (f (suc n) % 2) 2 (2 ^ n) in
    omega (arith, set-suc (λ v. f (suc v)) n)

pub set_more : (s : ℕ → Bool) (n : ℕ) → num_of (digit s) (n + 1) ≡ num_of (digit s) n + cond (s n) (2 ^ n) 0
set_more s n = rw (add-one n) (set-suc (digit s) n ∙ go (s n))
  where
    go : (b : Bool) → num_of (digit s) n + cond {A = ℕ} b 1 0 % 2 * 2 ^ n ≡ num_of (digit s) n + cond b (2 ^ n) 0
    go true = omega (arith, one-mul (2 ^ n))
    go false = omega (arith, zero-mul (2 ^ n))

-- a stop is in it exactly if the test holds, where it holds only below n
pub set_is : (s : ℕ → Bool) (n : ℕ) → ((i : ℕ) → n ≤ i → s i ≡ false) → in_set (num_of (digit s) n) ≡ s
unfolding in_set
set_is s n h = fun_ext (λ i. go i (dec_lt i n) (s i) refl)
  where
    bit-of : (b : Bool) → eqb (cond {A = ℕ} b 1 0 % 2) 1 ≡ b
    bit-of true = refl
    bit-of false = refl

    go : (i : ℕ) → Dec (i < n) → (b : Bool) → s i ≡ b → eqb (bit (num_of (digit s) n) i) 1 ≡ s i
    go i (yes l) b e = rw (bit-num_of (digit s) n i l) (bit-of (s i))
    go i (no l) b e = rw (bit_past (num_of (digit s) n) n i (num_of-lt (digit s) n) (omega arith)) (sym (h i (omega arith)))

-- a set of stops below n is the one of its own test
pub set_own : (F n : ℕ) → F < 2 ^ n → F ≡ num_of (λ i. digit (in_set F) (0 + i)) n
unfolding in_set
set_own F n b = bit-ext n F (num_of d n) b (num_of-lt d n) (λ v c. sym (bit-num_of d n v c ∙ rw (zero-add v) (go v (parity (F / 2 ^ v)))))
  where
    d : ℕ → ℕ
    d i = digit (in_set F) (0 + i)

    go : (v : ℕ) → (bit F v ≡ 0) ⊎ (bit F v ≡ 1) → cond {A = ℕ} (eqb (bit F v) 1) 1 0 % 2 ≡ bit F v
    go v (inl e) = rw e
    go v (inr e) = rw e

-- how many are in it
pub set-count : (s : ℕ → Bool) (first n : ℕ) → ones (num_of (λ i. digit s (first + i)) n) ≡ count_in s first n
unfolding num_of count_in ones
set-count s first zero = refl
set-count s first (suc n) =
    let g : ℕ → ℕ = λ i. digit s (first + i) in
    let h : ℕ → ℕ = λ i. digit s (suc first + i) in
    let same : (λ (i : ℕ). g (suc i)) ≡ h = fun_ext (λ i. ap (digit s) (omega arith)) in
    let half : num_of g (suc n) / 2 ≡ num_of h n = omega (arith, ap (λ (f : ℕ → ℕ). num_of f n) same) in
    let odd : num_of g (suc n) % 2 ≡ digit s first = rw add-zero (go (s first) (num_of (λ v. g (suc v)) n)) in
    ones_step (num_of g (suc n)) ∙ ap₂ ◌+◌ odd (ap ones half ∙ set-count s (suc first) n)
  where
    go : (b : Bool) (x : ℕ) → (cond {A = ℕ} b 1 0 % 2 + 2 * x) % 2 ≡ cond b 1 0
    go true x = omega arith
    go false x = omega arith
