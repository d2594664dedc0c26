-- The condition on neighbouring stops by their exclusive or: 2^t ≤ a xor b < 2^(t+1).
use mathlib.Core.Path.{◌≡◌, sym, ◌∙◌}
use mathlib.Core.Logic.{◌↔◌}
use Prim.Native.Nat.{ℕ, suc, ◌+◌, ◌/◌, ◌^◌, ◌≤◌, ◌<◌}
use native.Mathlib.Nat.{div-eq_of_lt, div-lt_iff_lt-mul, one-mul}
use native.Mathlib.Numerals.{add-one}
use native.Mathlib.Decide.{dec_le}
use native.Mathlib.Omega.{arith}
use lib.Pow.{pow_pos}
use lib.Bits.{bit_xor, xor_self, xor_shr, xor_add_and, and_le_l, and_le_r}
use Rattle.tree.proofs.Beside.{Beside}

-- the exclusive or is 0 only of equal numbers
xor-zero : (a b : ℕ) → bit_xor a b ≡ 0 → a ≡ b
xor-zero a b h = omega (arith, xor_add_and a b, and_le_l a b, and_le_r a b)

-- two numbers agree from bit t on exactly if their exclusive or is less than 2^t
pub xor-lt-of-same : (t a b : ℕ) → a / 2 ^ t ≡ b / 2 ^ t → bit_xor a b < 2 ^ t
xor-lt-of-same t a b h =
    let z : bit_xor a b / 2 ^ t ≡ 0 = xor_shr a b t ∙ rw h (xor_self (b / 2 ^ t)) in
    rw one-mul at ((div-lt_iff_lt-mul {x = bit_xor a b} {y = 1} (pow_pos t)).0 (omega arith))

-- and back
pub same-of-xor-lt : (t a b : ℕ) → bit_xor a b < 2 ^ t → a / 2 ^ t ≡ b / 2 ^ t
same-of-xor-lt t a b h = xor-zero (a / 2 ^ t) (b / 2 ^ t) (sym (xor_shr a b t) ∙ div-eq_of_lt h)

-- the two forms of the condition
pub beside-xor : (t a b : ℕ) → Beside t a b ↔ ((2 ^ t ≤ bit_xor a b) × (bit_xor a b < 2 ^ (t + 1)))
beside-xor t a b = (there, back)
  where
    there : Beside t a b → (2 ^ t ≤ bit_xor a b) × (bit_xor a b < 2 ^ (t + 1))
    there h = (low (dec_le (2 ^ t) (bit_xor a b)), rw add-one (xor-lt-of-same (suc t) a b h.same))
      where
        low : Dec (2 ^ t ≤ bit_xor a b) → 2 ^ t ≤ bit_xor a b
        low (yes l) = l
        low (no l) = absurd (h.apart (same-of-xor-lt t a b (omega arith)))

    back : (2 ^ t ≤ bit_xor a b) × (bit_xor a b < 2 ^ (t + 1)) → Beside t a b
    back h = record { same = same-of-xor-lt (suc t) a b (rw add-one at h.1); apart = λ e. absurd (omega (arith, xor-lt-of-same t a b e, h.0)) }
