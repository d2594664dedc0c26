-- Laws of fields, each once over the width: a number is read from the bytes it was written as, and bytes are those of the number they spell.
use mathlib.Core.Path.{◌≡◌, refl, sym, ap, ◌∙◌}
use mathlib.Core.Bool.{Bool, true, false, cond, ◌&&◌}
use mathlib.Core.List.{List, [], ◌∷◌, ◌++◌}
use Prim.Native.Nat.{ℕ, zero, suc, ◌+◌, ◌-◌, ◌*◌, ◌/◌, ◌%◌, ◌^◌, ◌≤◌, ◌<◌}
use native.Mathlib.Nat.{zero-add, suc-add, pow-zero, pow-succ', mul_assoc, mul_comm, mul-zero, one-mul, div-one, mod-one, mod-eq_of_lt, div-div-eq-div-mul}
use native.Mathlib.Omega.{arith}
use lib.Arith.{mod-mul}
use lib.Dec.{ltb}
use lib.IntN.{ℤ, pos, negsuc, nat_abs}
use lib.ListN.{length, take, drop, get_or}
use borrow.Author.Tests.{lt-ltb, le-ltb, ltb-true}
use Rattle.base.proofs.Bools.{both}
use Rattle.records.specs.Field.{number_of, bytes_of, are_bytes, signed, unsigned}

-- ---- the number of bytes

pub number-nil : number_of [] ≡ 0
unfolding number_of
number-nil = refl

pub number-cons : (b : ℕ) (s : List ℕ) → number_of (b ∷ s) ≡ b + 256 * number_of s
unfolding number_of
number-cons b s = refl

-- the first byte alone, 0 where there is none
pub number-first : (s : List ℕ) → number_of (take 1 s) ≡ get_or s 0 0
number-first [] = number-nil
number-first (b ∷ s) = rw (number-cons, number-nil) (omega arith)

pow_pos : (w : ℕ) → 0 < 256 ^ w
pow_pos zero = rw pow-zero (omega arith)
pow_pos (suc w) = let h : 0 < 256 ^ w = pow_pos w in rw pow-succ' (omega arith)

-- a field of two parts: the first part's number, and the second's above it
pub number-parts : (w v : ℕ) (s : List ℕ) → number_of (take (w + v) s) ≡ number_of (take w s) + 256 ^ w * number_of (take v (drop w s))
number-parts zero v s = rw (zero-add, number-nil, pow-zero, one-mul, zero-add)
number-parts (suc w) v [] = rw (suc-add, number-nil) (none v)
  where
    none : (v : ℕ) → 0 ≡ 0 + 256 ^ suc w * number_of (take v [])
    none zero = rw (number-nil, mul-zero)
    none (suc v) = rw (number-nil, mul-zero)
number-parts (suc w) v (b ∷ s) =
    let rest : number_of (take (w + v) s) ≡ number_of (take w s) + 256 ^ w * number_of (take v (drop w s)) = number-parts w v s in
    let over : 256 * 256 ^ w * number_of (take v (drop w s)) ≡ 256 * (256 ^ w * number_of (take v (drop w s))) = mul_assoc 256 (256 ^ w) _ in
    rw (suc-add, number-cons, number-cons, pow-succ') (omega arith)

-- ---- the bytes of a number

pub bytes_of_zero : (x : ℕ) → bytes_of zero x ≡ []
unfolding bytes_of
bytes_of_zero x = refl

pub bytes_of_suc : (w x : ℕ) → bytes_of (suc w) x ≡ x % 256 ∷ bytes_of w (x / 256)
unfolding bytes_of
bytes_of_suc w x = refl

pub length-bytes_of : (w x : ℕ) → length (bytes_of w x) ≡ w
length-bytes_of zero x = rw bytes_of_zero
length-bytes_of (suc w) x = rw bytes_of_suc (ap suc (length-bytes_of w (x / 256)))

-- a field of two parts is written as both
pub bytes_of-parts : (w v x : ℕ) → bytes_of (w + v) x ≡ bytes_of w x ++ bytes_of v (x / 256 ^ w)
bytes_of-parts zero v x = rw (zero-add, bytes_of_zero, pow-zero, div-one)
bytes_of-parts (suc w) v x =
    rw (suc-add, bytes_of_suc, bytes_of_suc, pow-succ', ← div-div-eq-div-mul) (ap (λ (l : List ℕ). x % 256 ∷ l) (bytes_of-parts w v (x / 256)))

-- only what fits the width is written
pub bytes_of_mod : (w x : ℕ) → bytes_of w (x % 256 ^ w) ≡ bytes_of w x
bytes_of_mod zero x = rw (bytes_of_zero, bytes_of_zero)
bytes_of_mod (suc w) x =
    let whole : x % 256 ^ suc w ≡ (x / 256 % 256 ^ w) * 256 + x % 256 = rw (pow-succ', mul_comm 256 (256 ^ w)) (mod-mul x (pow_pos w) (omega arith)) in
    let low : x % 256 ^ suc w % 256 ≡ x % 256 = omega arith in
    let high : x % 256 ^ suc w / 256 ≡ x / 256 % 256 ^ w = omega arith in
    rw (bytes_of_suc, bytes_of_suc, low, high, bytes_of_mod w (x / 256))

pub number-bytes_of-mod : (w x : ℕ) → number_of (bytes_of w x) ≡ x % 256 ^ w
number-bytes_of-mod zero x = rw (bytes_of_zero, number-nil, pow-zero, mod-one)
number-bytes_of-mod (suc w) x =
    let whole : x % 256 ^ suc w ≡ (x / 256 % 256 ^ w) * 256 + x % 256 = rw (pow-succ', mul_comm 256 (256 ^ w)) (mod-mul x (pow_pos w) (omega arith)) in
    let rest : number_of (bytes_of w (x / 256)) ≡ x / 256 % 256 ^ w = number-bytes_of-mod w (x / 256) in
    rw (bytes_of_suc, number-cons) (omega arith)

-- reading what was written
pub number-bytes_of : (w x : ℕ) → x < 256 ^ w → number_of (bytes_of w x) ≡ x
number-bytes_of w x h = number-bytes_of-mod w x ∙ mod-eq_of_lt h

pub are_bytes-nil : are_bytes [] ≡ true
unfolding are_bytes
are_bytes-nil = refl

pub are_bytes-cons : (b : ℕ) (s : List ℕ) → are_bytes (b ∷ s) ≡ (ltb b 256 && are_bytes s)
unfolding are_bytes
are_bytes-cons b s = refl

pub are_bytes-head : (b : ℕ) (s : List ℕ) → are_bytes (b ∷ s) ≡ true → b < 256
are_bytes-head b s h = ltb-true b 256 (both (ltb b 256) (are_bytes s) (sym (are_bytes-cons b s) ∙ h)).0

pub are_bytes-tail : (b : ℕ) (s : List ℕ) → are_bytes (b ∷ s) ≡ true → are_bytes s ≡ true
are_bytes-tail b s h = (both (ltb b 256) (are_bytes s) (sym (are_bytes-cons b s) ∙ h)).1

-- writing what was read
pub bytes_of-number : (s : List ℕ) → are_bytes s ≡ true → bytes_of (length s) (number_of s) ≡ s
bytes_of-number [] h = bytes_of_zero (number_of [])
bytes_of-number (b ∷ s) h =
    let hb : b < 256 = are_bytes-head b s h in
    let low : (b + 256 * number_of s) % 256 ≡ b = omega arith in
    let high : (b + 256 * number_of s) / 256 ≡ number_of s = omega arith in
    rw (bytes_of_suc, number-cons, low, high, bytes_of-number s (are_bytes-tail b s h))

pub are_bytes-bytes_of : (w x : ℕ) → are_bytes (bytes_of w x) ≡ true
are_bytes-bytes_of zero x = rw (bytes_of_zero, are_bytes-nil)
are_bytes-bytes_of (suc w) x =
    let h : x % 256 < 256 = omega arith in
    rw (bytes_of_suc, are_bytes-cons, lt-ltb _ _ h) (are_bytes-bytes_of w (x / 256))

-- the number of bytes fits their count
pub number_lt : (s : List ℕ) → are_bytes s ≡ true → number_of s < 256 ^ length s
number_lt [] h = rw (number-nil, pow-zero) (omega arith)
number_lt (b ∷ s) h =
    let hb : b < 256 = are_bytes-head b s h in
    let rest : number_of s < 256 ^ length s = number_lt s (are_bytes-tail b s h) in
    rw (number-cons, pow-succ') (omega arith)

-- ---- two's complement

pub unsigned_signed : (u : ℕ) → u < 2 ^ 32 → unsigned (signed u) ≡ u
unfolding signed unsigned
unsigned_signed u h = pick (ltb u (2 ^ 31)) refl
  where
    pick : (b : Bool) → ltb u (2 ^ 31) ≡ b → unsigned (cond b (pos u) (negsuc (2 ^ 32 - 1 - u))) ≡ u
    pick true e = refl
    pick false e = omega arith

pub signed-unsigned : (z : ℤ) → nat_abs z < 2 ^ 31 → signed (unsigned z) ≡ z
unfolding signed unsigned
signed-unsigned (pos n) h = rw (lt-ltb n (2 ^ 31) h)
signed-unsigned (negsuc n) h =
    let less : n < 2 ^ 31 = omega arith in
    let high : 2 ^ 31 ≤ 2 ^ 32 - 1 - n = omega arith in
    let back : 2 ^ 32 - 1 - (2 ^ 32 - 1 - n) ≡ n = omega arith in
    rw (le-ltb (2 ^ 32 - 1 - n) (2 ^ 31) high, back)

pub unsigned-lt : (z : ℤ) → nat_abs z < 2 ^ 31 → unsigned z < 2 ^ 32
unfolding unsigned
unsigned-lt (pos n) h = let less : n < 2 ^ 31 = h in omega arith
unsigned-lt (negsuc n) h = omega arith

-- ---- parts of bytes are bytes

pub are_bytes-take : (n : ℕ) (s : List ℕ) → are_bytes s ≡ true → are_bytes (take n s) ≡ true
are_bytes-take zero s h = are_bytes-nil
are_bytes-take (suc n) [] h = are_bytes-nil
are_bytes-take (suc n) (b ∷ s) h =
    rw (are_bytes-cons, lt-ltb _ _ (are_bytes-head b s h)) (are_bytes-take n s (are_bytes-tail b s h))

pub are_bytes-drop : (n : ℕ) (s : List ℕ) → are_bytes s ≡ true → are_bytes (drop n s) ≡ true
are_bytes-drop zero s h = h
are_bytes-drop (suc n) [] h = are_bytes-nil
are_bytes-drop (suc n) (b ∷ s) h = are_bytes-drop n s (are_bytes-tail b s h)
