-- What a pass asks, and the tests that tell it.
use mathlib.Core.Path.{◌≡◌, sym, ◌∙◌}
use mathlib.Core.Bool.{true, false, cond}
use Prim.Native.Nat.{ℕ, zero, suc, ◌+◌, ◌*◌, ◌/◌, ◌%◌, ◌^◌, ◌≤◌, ◌<◌}
use native.Mathlib.Nat.{div-add-mod', mul-mod_left}
use native.Mathlib.Omega.{arith}
use borrow.Author.Tests.{ltb-true, ltb-false, lt-ltb, le-leb, lt-leb, eqb-true, eqb-false}
use lib.Bits.{bit_xor}
use lib.Dec.{ltb, eqb}
use Rattle.tree.specs.Neighbour.{trail, reach, may_follow}
use Rattle.tree.proofs.Beside.{Beside}
use Rattle.tree.proofs.Block.{may_follow-block, beside-block, beside-by-block, trail-aligned}
use Rattle.rows.specs.Pass.{AlignedBlock, Tells}
use Rattle.rows.proofs.Blocks.{in_block}

-- the test says no
pub tells-no : {A : Type 0} → (A → ⊥) → Tells false A
tells-no h = record { yes = λ e. let z : ◌≡◌ {A = ℕ} 0 1 = cc in absurd (omega arith); no = λ e. h }

-- whether two numbers are equal
pub tells-equal : {A : Type 0} (x y : ℕ) → (x ≡ y → A) → (A → x ≡ y) → Tells (eqb x y) A
tells-equal x y f g = record { yes = λ e. f (eqb-true x y e); no = λ e a. eqb-false x y e (g a) }

-- or one is below the other
pub tells-below : {A : Type 0} (x y : ℕ) → (x < y → A) → (A → x < y) → Tells (ltb x y) A
tells-below x y f g = record { yes = λ e. f (ltb-true x y e); no = λ e a. let h = g a in omega (arith, ltb-false x y e) }

-- a block that starts at a multiple of its size is aligned
pub aligned-made : {n start m : ℕ} → start + 2 ^ m ≤ n → start % 2 ^ m ≡ 0 → AlignedBlock n start m
aligned-made {n} {start} {m} h e = record { number = start / 2 ^ m; starts = omega (arith, div-add-mod' start (2 ^ m)); inside = h }

-- and no other is
pub aligned-multiple : {n start m : ℕ} → AlignedBlock n start m → start % 2 ^ m ≡ 0
aligned-multiple {m = m} a = rw a.starts (mul-mod_left a.number (2 ^ m))

-- a stop may follow if the exclusive or is in the place's reach
module _ (p a b : ℕ) where
  pub may-follow : reach p ≤ bit_xor a b → bit_xor a b < 2 * reach p → may_follow p a b ≡ true
  unfolding may_follow
  may-follow x y = rw (le-leb (reach p) (bit_xor a b) x, lt-ltb (bit_xor a b) (2 * reach p) y)

  -- below it, it may not
  pub not-below : bit_xor a b < reach p → may_follow p a b ≡ true → ⊥
  unfolding may_follow
  not-below x e = let f : cond false (ltb (bit_xor a b) (2 * reach p)) false ≡ true = rw (lt-leb (reach p) (bit_xor a b) x) at e in let z : ◌≡◌ {A = ℕ} 0 1 = cc in omega arith

  -- nor beyond it
  pub follow-below : reach p ≤ bit_xor a b → may_follow p a b ≡ true → bit_xor a b < 2 * reach p
  unfolding may_follow
  follow-below x e = ltb-true (bit_xor a b) (2 * reach p) (rw (le-leb (reach p) (bit_xor a b) x) at e)

-- of a block of stops all may follow the stop before, or none
pub follows-by-block : {n left m : ℕ} (before j i : ℕ) → AlignedBlock n left m → j / 2 ^ m ≡ i / 2 ^ m → 0 < left → may_follow left before j ≡ true → may_follow left before i ≡ true
follows-by-block {n} {left} {m} before j i a same pos h =
    let beside : Beside (trail left) before j = (beside-block (trail left) before j).1 ((may_follow-block left before j).0 h) in
    (may_follow-block left before i).1 ((beside-block (trail left) before i).0 (beside-by-block (trail left) m before j i zeros same beside))
  where
    number-pos : (z : ℕ) → left ≡ z * 2 ^ m → 0 < z
    number-pos zero e = absurd (omega (arith, e))
    number-pos (suc z) e = omega arith

    zeros : m ≤ trail left
    zeros = rw a.starts (trail-aligned a.number m (number-pos a.number a.starts))

-- so its first stop tells
pub block-follows : {n left base m : ℕ} (before : ℕ) → AlignedBlock n left m → AlignedBlock n base m → (0 < left → may_follow left before base ≡ true) → (i : ℕ) → base ≤ i → i < base + 2 ^ m
    → 0 < left → may_follow left before i ≡ true
block-follows {base = base} before a b h i x y pos = follows-by-block before base i a (in_block b base (omega arith) (omega arith) ∙ sym (in_block b i x y)) pos (h pos)
