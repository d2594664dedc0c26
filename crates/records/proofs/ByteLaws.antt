-- The library's bytes of a number are those of the documents: least byte first, and a byte that is not there counts as 0.
use mathlib.Core.Path.{◌≡◌, refl, sym, ap, ◌∙◌}
use mathlib.Core.Bool.{Bool, true, false}
use mathlib.Core.List.{List, [], ◌∷◌, ◌++◌}
use Prim.Native.Nat.{ℕ, zero, suc, ◌+◌, ◌*◌, ◌/◌, ◌%◌, ◌^◌, ◌≤◌}
use native.Mathlib.Nat.{pow-zero, div-one, mul-one, mul_comm, add-zero, pow-suc, div-div-eq-div-mul}
use native.Mathlib.Numerals.{add-one}
use native.Mathlib.Omega.{arith}
use lib.Dec.{ltb}
use lib.IntN.{ℤ, pos, negsuc}
use lib.ListN.{length, get_or, take, drop, replicate}
use lib.Seq.{get_or-drop}
use mir.Syntax.{w32}
use mir.Val.{of_z, to_z}
use Rattle.base.specs.Lists.{tabulate}
use Rattle.std.specs.Int.{byte_at, byte_worth, bytes_low_first, sum_through}
use Rattle.records.specs.Field.{number_of, bytes_of, first_bytes, signed, unsigned}
use Rattle.records.proofs.FieldLaws.{number-first, number-parts, bytes_of_zero, bytes_of_suc}

-- a byte of a number, and what it is worth
byte : (i n : ℕ) → byte_at i n ≡ n / 256 ^ i % 256
byte zero n = rw (pow-zero, div-one)
byte (suc i) n = refl

worth : (i b : ℕ) → byte_worth i b ≡ b * 256 ^ i
worth zero b = rw (pow-zero, mul-one)
worth (suc i) b = refl

-- the bytes from one on are the field of what is above the lower ones
bytes-from : (i w n : ℕ) → bytes_low_first i w n ≡ bytes_of w (n / 256 ^ i)
bytes-from i zero n = sym (bytes_of_zero (n / 256 ^ i))
bytes-from i (suc w) n =
    let above : n / 256 ^ i / 256 ≡ n / 256 ^ suc i = div-div-eq-div-mul n (256 ^ i) 256 ∙ ap (λ (d : ℕ). n / d) (sym (pow-suc 256 i)) in
    rw (byte, bytes_of_suc, above) (ap (λ (l : List ℕ). n / 256 ^ i % 256 ∷ l) (bytes-from (suc i) w n))

pub bytes-low : (w n : ℕ) → bytes_low_first 0 w n ≡ bytes_of w n
bytes-low w n = bytes-from 0 w n ∙ rw (pow-zero, div-one)

-- the sum of what the first bytes are worth
pub number-sum : (s : List ℕ) (n : ℕ) → sum_through (λ i. byte_worth i (get_or s i 0)) n ≡ number_of (take (suc n) s)
number-sum s zero = sym (number-first s)
number-sum s (suc n) =
    let last : number_of (take 1 (drop (suc n) s)) ≡ get_or s (suc n) 0 = number-first (drop (suc n) s) ∙ get_or-drop (suc n) s 0 0 ∙ ap (λ (i : ℕ). get_or s i 0) (add-zero (suc n)) in
    let whole : number_of (take (suc n + 1) s) ≡ number_of (take (suc n) s) + 256 ^ suc n * number_of (take 1 (drop (suc n) s)) = number-parts (suc n) 1 s in
    rw (number-sum s n, ← last, mul_comm) (sym whole ∙ ap (λ (m : ℕ). number_of (take m s)) (add-one (suc n)))

-- bytes that are there, and zeros where there are none, as many as the width
zeros : (w : ℕ) → replicate {A = ℕ} w 0 ≡ tabulate w (λ i. 0)
zeros zero = refl
zeros (suc w) = ap (λ (l : List ℕ). 0 ∷ l) (zeros w)

pub part : (w : ℕ) (s : List ℕ) → length s ≤ w → s ++ drop (length s) (replicate {A = ℕ} w 0) ≡ first_bytes w s
part w [] h = zeros w
part zero (b ∷ s) h = absurd (omega arith)
part (suc w) (b ∷ s) h = ap (λ (l : List ℕ). b ∷ l) (part w s (omega arith))

-- all bytes of the width, where they are there
pub whole : (w : ℕ) (s : List ℕ) → w ≤ length s → take w s ≡ first_bytes w s
whole zero s h = refl
whole (suc w) [] h = absurd (omega arith)
whole (suc w) (b ∷ s) h = ap (λ (l : List ℕ). b ∷ l) (whole w s (omega arith))

-- ---- two's complement

-- the library's casts are those of the documents
pub cast_signed_is : (u : ℕ) → to_z w32 u ≡ signed u
unfolding signed
cast_signed_is u = by (ltb u (2 ^ 31)) refl
  where
    by : (b : Bool) → ltb u (2 ^ 31) ≡ b → to_z w32 u ≡ signed u
    by true e = rw e
    by false e = rw e (ap negsuc (omega arith))

pub cast_unsigned_is : (x : ℤ) → of_z w32 x ≡ unsigned x
unfolding unsigned
cast_unsigned_is (pos n) = refl
cast_unsigned_is (negsuc n) = omega arith
