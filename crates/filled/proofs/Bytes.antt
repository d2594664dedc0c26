-- The first bytes of a number, as the library gives them.
use mathlib.Core.Path.{◌≡◌, sym, ap, ap₂, ◌∙◌}
use mathlib.Core.List.{List, ◌++◌}
use Prim.Native.Nat.{ℕ, ◌+◌, ◌-◌, ◌/◌, ◌^◌, ◌≤◌}
use native.Mathlib.Omega.{arith}
use lib.ListN.{length, take, drop}
use lib.Seq.{take_at}
use Rattle.std.specs.Int.{w64, to_le_bytes}
use Rattle.base.specs.Outcome.{over}
use Rattle.records.specs.Field.{bytes_of}
use Rattle.records.proofs.ByteLaws.{bytes-low}
use Rattle.records.proofs.FieldLaws.{length-bytes_of, bytes_of-parts}

-- of eight bytes the first are those of fewer
pub first-bytes : (count x : ℕ) → count ≤ 8 → take count (to_le_bytes w64 x) ≡ bytes_of count x
first-bytes count x h =
    let e : count + (8 - count) ≡ 8 = omega arith in
    ap (take count) (bytes-low 8 x ∙ ap (λ (w : ℕ). bytes_of w x) (sym e) ∙ bytes_of-parts count (8 - count) x)
    ∙ take_at (bytes_of count x) (bytes_of (8 - count) (x / 256 ^ count)) count (length-bytes_of count x)

-- there are eight
pub eight-bytes : (x : ℕ) → length (to_le_bytes w64 x) ≡ 8
eight-bytes x = ap length (bytes-low 8 x) ∙ length-bytes_of 8 x

-- they are written over the first of a buffer
pub first-written : (count x y : ℕ) (part bytes bits : List ℕ) → count ≤ 8 → part ≡ take count bytes → bytes ≡ to_le_bytes w64 y → y ≡ x → part ++ drop count bits ≡ over (bytes_of count x) bits
first-written count x y part bytes bits h p b f =
    let e : part ≡ bytes_of count x = p ∙ ap (take count) b ∙ first-bytes count y h ∙ ap (bytes_of count) f in
    ap₂ (λ (l : List ℕ) (n : ℕ). l ++ drop n bits) e (sym (length-bytes_of count x))
