-- Two neighbouring stops i and i + 1, i even, in one place: in an odd place each is the group beside the other, in an even place both have the
-- same group beside them.
use mathlib.Core.Path.{◌≡◌, refl, sym, ap, ◌∙◌}
use mathlib.Core.Bool.{Bool, true, false, cond, ◌&&◌}
use Prim.Native.Nat.{ℕ, zero, suc, ◌+◌, ◌*◌, ◌-◌, ◌/◌, ◌%◌, ◌^◌, ◌≤◌, ◌<◌}
use native.Mathlib.Nat.{pow-succ', div-one, mul-one}
use native.Mathlib.Omega.{arith}
use borrow.Author.Tests.{lt-ltb}
use lib.Bits.{bit_xor}
use Rattle.tree.specs.Block.{beside_of}
use Rattle.tree.specs.Neighbour.{trail, reach}
use Rattle.tree.proofs.Beside.{trail-odd, trail-even, shr-suc}
use Rattle.tree.proofs.Block.{xor-one}
use Rattle.walks.specs.Rows.{turn, loop}
use Rattle.filled.specs.Forks.{filled_below, above}
use Rattle.filled.specs.Row.{unreached, total_in, least_in}
use Rattle.filled.specs.Table.{beside_filled, table_at}
use Rattle.filled.proofs.Levels.{above_zero}
use Rattle.filled.proofs.Loops.{least-none, least_more}
use Rattle.filled.proofs.Numbers.{table-some, cost-fits, total-beside}
use Rattle.filled.proofs.Recurrence.{table_empty, table-skip}

-- in an odd place the group before has one place
reach-odd : (p : ℕ) → p % 2 ≡ 1 → p - reach p ≡ p - 1
unfolding reach
reach-odd p e = rw (trail-odd p e)

-- a tree with more than one stop has an even number of them
twice : (k i : ℕ) → i + 1 < 2 ^ k → (h : ℕ) × (2 ^ k ≡ 2 * h)
twice zero i b = absurd (omega arith)
twice (suc k) i b = (2 ^ k, pow-succ' 2 k)

module _ (k : ℕ) (s : ℕ → Bool) (p i : ℕ) (pos : 0 < p) (stop : i + 1 < 2 ^ k) (even : i % 2 ≡ 0) where
  -- ---- an odd place

  odd-other : (a b : ℕ) → bit_xor (2 ^ k + a) 1 ≡ 2 ^ k + b → p % 2 ≡ 1 → beside_filled k s p a ≡ s b
  unfolding filled_below
  odd-other a b e o =
      let f : 2 ^ k + b - 2 ^ k ≡ b = omega arith in
      rw (trail-odd p o, above_zero k a, e, f)

  other-one : bit_xor (2 ^ k + i) 1 ≡ 2 ^ k + (i + 1)
  other-one = let h = twice k i stop in omega (arith, xor-one (2 ^ k + i), h.1)

  other-two : bit_xor (2 ^ k + (i + 1)) 1 ≡ 2 ^ k + i
  other-two = let h = twice k i stop in omega (arith, xor-one (2 ^ k + (i + 1)), h.1)

  pub odd-one : p % 2 ≡ 1 → beside_filled k s p i ≡ s (i + 1)
  odd-one = odd-other i (i + 1) other-one

  pub odd-two : p % 2 ≡ 1 → beside_filled k s p (i + 1) ≡ s i
  odd-two = odd-other (i + 1) i other-two

  -- the group beside starts with the other stop
  odd-first : (a b : ℕ) → bit_xor a 1 ≡ b → p % 2 ≡ 1 → beside_of a (trail p) ≡ b
  unfolding beside_of
  odd-first a b e o = rw (trail-odd p o, div-one a) (mul-one (bit_xor a 1) ∙ e)

  pub first_one : p % 2 ≡ 1 → beside_of i (trail p) ≡ i + 1
  first_one = odd-first i (i + 1) (omega (arith, xor-one i))

  pub first_two : p % 2 ≡ 1 → beside_of (i + 1) (trail p) ≡ i
  first_two = odd-first (i + 1) i (omega (arith, xor-one (i + 1)))

  -- ---- an even place

  -- what is above both is the same
  even-above : (m : ℕ) → above k (suc m) (i + 1) ≡ above k (suc m) i
  even-above m =
      let h = twice k i stop in
      let e : (2 ^ k + (i + 1)) / 2 ≡ (2 ^ k + i) / 2 = omega (arith, h.1) in
      shr-suc (2 ^ k + (i + 1)) m ∙ ap (λ x. x / 2 ^ m) e ∙ sym (shr-suc (2 ^ k + i) m)

  pub even-same : p % 2 ≡ 0 → beside_filled k s p (i + 1) ≡ beside_filled k s p i
  even-same e = let z : trail p ≡ suc (trail (p / 2)) = trail-even p pos e in
      rw z (ap (λ v. filled_below k s (suc (trail (p / 2))) (bit_xor v 1)) (even-above (trail (p / 2))))

  pub even-first : p % 2 ≡ 0 → beside_of (i + 1) (trail p) ≡ beside_of i (trail p)
  unfolding beside_of
  even-first e =
      let z : trail p ≡ suc (trail (p / 2)) = trail-even p pos e in
      let m : ℕ = trail (p / 2) in
      let f : (i + 1) / 2 ≡ i / 2 = omega arith in
      let g : (i + 1) / 2 ^ suc m ≡ i / 2 ^ suc m = shr-suc (i + 1) m ∙ ap (λ x. x / 2 ^ m) f ∙ sym (shr-suc i m) in
      rw (z, g)

-- ---- their totals

module _ (k : ℕ) (s : ℕ → Bool) (t : ℕ → ℕ → ℕ) (small : k ≤ 6) (short : (a b : ℕ) → t a b < 2 ^ 32) (p i : ℕ) (pos : 0 < p) (place : p < 2 ^ k)
    (stop : i + 1 < 2 ^ k) (even : i % 2 ≡ 0) where
  -- a filled stop a after the only stop b of the group beside it, which is filled
  after_one : (a b : ℕ) → a < 2 ^ k → b < 2 ^ k → s a ≡ true → s b ≡ true → beside_filled k s p a ≡ true → trail p ≡ 0 → beside_of a (trail p) ≡ b
      → total_in (table_at k s t p a) ≡ total_in (table_at k s t (p - 1) b) + t b a
  unfolding total_in turn loop
  after_one a b x y f g h z e =
      let r = table-some k s t (p - 1) b (omega arith) y g in
      let w : ℕ → ℕ = λ j. total_in (table_at k s t (p - 1) j) + t j a in
      let fits : w b < unreached = rw r.2 (cost-fits k s t small short (p - 1) b r.0 r.1 (omega arith) r.2 a) in
      let only : least_in w b 1 ≡ (w b, b) = sym (least_more w b b (unreached, 0) (omega arith) (least-none w b)) ∙ rw (lt-ltb (w b) unreached fits) in
      let same : least_in w (beside_of a (trail p)) (2 ^ trail p) ≡ (w b, b) = rw (e, z) only in
      sym (total-beside k s t small short p a pos place x f h) ∙ ap (λ (q : ℕ × ℕ). q.0) same

  -- in an odd place, both filled: each after the other
  pub pair-crossed : p % 2 ≡ 1 → s i ≡ true → s (i + 1) ≡ true
      → (total_in (table_at k s t p i) ≡ total_in (table_at k s t (p - 1) (i + 1)) + t (i + 1) i) × (total_in (table_at k s t p (i + 1)) ≡ total_in (table_at k s t (p - 1) i) + t i (i + 1))
  pair-crossed o f g = (
    after_one i (i + 1) (omega arith) stop f g (odd-one k s p i pos stop even o ∙ g) (trail-odd p o) (first_one k s p i pos stop even o),
    after_one (i + 1) i stop (omega arith) g f (odd-two k s p i pos stop even o ∙ f) (trail-odd p o) (first_two k s p i pos stop even o),
  )

  -- a stop a whose other stop b is empty, or that is empty itself, has the total of the place before
  one_kept : (a b : ℕ) → beside_filled k s p a ≡ s b → p % 2 ≡ 1 → (s a && s b) ≡ false → total_in (table_at k s t p a) ≡ total_in (table_at k s t (p - 1) a)
  one_kept a b e o h = go (s a) (s b) refl refl h
    where
      go : (x y : Bool) → s a ≡ x → s b ≡ y → (x && y) ≡ false → total_in (table_at k s t p a) ≡ total_in (table_at k s t (p - 1) a)
      go true false f g h = ap total_in (table-skip k s t p a pos (e ∙ g) ∙ ap (λ q. table_at k s t q a) (reach-odd p o))
      go true true f g h = let z : ◌≡◌ {A = ℕ} 0 1 = cc in absurd (omega arith)
      go false y f g h = ap total_in (table_empty k s t p a f ∙ sym (table_empty k s t (p - 1) a f))

  -- in an odd place, not both filled: as in the place before
  pub pair-kept : p % 2 ≡ 1 → (s i && s (i + 1)) ≡ false
      → (total_in (table_at k s t p i) ≡ total_in (table_at k s t (p - 1) i)) × (total_in (table_at k s t p (i + 1)) ≡ total_in (table_at k s t (p - 1) (i + 1)))
  pair-kept o h = (
    one_kept i (i + 1) (odd-one k s p i pos stop even o) o h,
    one_kept (i + 1) i (odd-two k s p i pos stop even o) o (swap (s i) (s (i + 1)) h),
  )
    where
      swap : (a b : Bool) → (a && b) ≡ false → (b && a) ≡ false
      swap true b h = rw h
      swap false true h = refl
      swap false false h = refl

  -- a stop's total from the group beside it, if it is filled
  weighed-one : (a : ℕ) → a < 2 ^ k → beside_filled k s p a ≡ true
      → cond (s a) (least_in (λ j. total_in (table_at k s t (p - 1) j) + t j a) (beside_of a (trail p)) (2 ^ trail p)).0 unreached ≡ total_in (table_at k s t p a)
  unfolding total_in
  weighed-one a b h = go (s a) refl
    where
      go : (x : Bool) → s a ≡ x
          → cond x (least_in (λ j. total_in (table_at k s t (p - 1) j) + t j a) (beside_of a (trail p)) (2 ^ trail p)).0 unreached ≡ total_in (table_at k s t p a)
      go true f = total-beside k s t small short p a pos place b f h
      go false f = rw (table_empty k s t p a f)

  -- in an even place, with a filled group beside
  pub pair-weighed : p % 2 ≡ 0 → beside_filled k s p i ≡ true
      → (cond (s i) (least_in (λ j. total_in (table_at k s t (p - 1) j) + t j i) (beside_of i (trail p)) (2 ^ trail p)).0 unreached ≡ total_in (table_at k s t p i))
      × (cond (s (i + 1)) (least_in (λ j. total_in (table_at k s t (p - 1) j) + t j (i + 1)) (beside_of i (trail p)) (2 ^ trail p)).0 unreached ≡ total_in (table_at k s t p (i + 1)))
  pair-weighed e h = (
    weighed-one i (omega arith) h,
    rw (even-first k s p i pos stop even e) at (weighed-one (i + 1) stop (even-same k s p i pos stop even e ∙ h)),
  )

  -- and with an empty one
  pub pair-skipped : p % 2 ≡ 0 → beside_filled k s p i ≡ false
      → (total_in (table_at k s t p i) ≡ total_in (table_at k s t (p - reach p) i)) × (total_in (table_at k s t p (i + 1)) ≡ total_in (table_at k s t (p - reach p) (i + 1)))
  pair-skipped e h = (
    ap total_in (table-skip k s t p i pos h),
    ap total_in (table-skip k s t p (i + 1) pos (even-same k s p i pos stop even e ∙ h)),
  )
