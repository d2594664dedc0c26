-- Laws of fork strings: a string's bits are those of its number, one bit set changes no other, and a string is decided by its bits.
use mathlib.Core.Path.{◌≡◌, refl, sym, ap, ap₂, ◌∙◌}
use mathlib.Core.Bool.{Bool, true, false}
use mathlib.Core.List.{List, [], ◌∷◌}
use mathlib.Core.Logic.{◌≢◌, ◌↔◌}
use Prim.Native.Nat.{ℕ, zero, suc, max, ◌+◌, ◌*◌, ◌-◌, ◌/◌, ◌%◌, ◌^◌, ◌≤◌, ◌<◌}
use native.Mathlib.Nat.{pow-succ', div_self, div-eq_of_lt, one-mul, mul_comm, mul_assoc, mul-div_cancel, mul-add-div_right, div-div-eq-div-mul, div-lt_iff_lt-mul}
use native.Mathlib.Decide.{dec_lt}
use native.Mathlib.Omega.{arith}
use lib.Bits.{bit_or, or_shr, or_step, or_lt}
use lib.Dec.{ltb, eqb}
use lib.ListN.{length, get_or, set, take, drop, length-set}
use lib.Pow.{pow_pos, pow-add, pow_mono, pow-lt, shr-shr}
use lib.Seq.{get_or-set_same, get_or-set_other, drop-set-lt, get_or-take, length-take-le}
use borrow.Author.Tests.{lt-ltb, ltb-true, eq-eqb, eqb-true}
use Rattle.base.specs.Refusal.{wrong_forks}
use Rattle.base.specs.Outcome.{gives, refuses, number}
use Rattle.base.proofs.Outcome.{passed}
use Rattle.records.specs.Field.{number_of, bytes_of, are_bytes}
use Rattle.records.proofs.FieldLaws.{number-nil, number-cons, number-bytes_of, bytes_of-number, are_bytes-nil, are_bytes-cons, are_bytes-head, are_bytes-tail, are_bytes-bytes_of, number_lt}
use Rattle.tree.specs.Fork.{bit}
use Rattle.tree.proofs.Bit.{bit-zero, bit-ext}
use Rattle.tree.proofs.Beside.{below-pow}
use Rattle.orders.specs.Bits.{byte_count, bit_string, set_of_bits, string_bit, only_forks, judge_forks, raised}
use Rattle.base.proofs.Bools.{both}
use Rattle.orders.proofs.Same.{equal}

-- ---- bits of numbers

-- a bit is 0 or 1
pub bit-lt : (x b : ℕ) → bit x b < 2
bit-lt x b = omega arith

-- 0 has no bits
pub bit-none : (b : ℕ) → bit 0 b ≡ 0
bit-none b = rw (div-eq_of_lt (pow_pos b))

-- a number of n bits has none from n on
pub bit_past : (x n b : ℕ) → x < 2 ^ n → n ≤ b → bit x b ≡ 0
bit_past x n b h l = let z : x / 2 ^ b ≡ 0 = div-eq_of_lt (omega (arith, pow_mono {i = n} {j = b} l)) in rw z

-- the bits of an inclusive or
pub bit-or : (x y b : ℕ) → bit (bit_or x y) b ≡ max (bit x b) (bit y b)
bit-or x y b = rw (or_shr x y b) (omega (arith, or_step (x / 2 ^ b) (y / 2 ^ b)))

-- a power of 2 has its own bit
pub bit-pow : (b : ℕ) → bit (2 ^ b) b ≡ 1
bit-pow b = rw (div_self (pow_pos b))

-- and no other
pub bit-pow-other : (b c : ℕ) → c ≢ b → bit (2 ^ b) c ≡ 0
bit-pow-other b c h = go (dec_lt b c)
  where
    go : Dec (b < c) → bit (2 ^ b) c ≡ 0
    go (yes l) = let z : 2 ^ b / 2 ^ c ≡ 0 = div-eq_of_lt (pow-lt l) in rw z
    go (no l) =
        let d : ℕ = b - suc c in
        let e : b ≡ suc d + c = omega arith in
        let q : 2 ^ b / 2 ^ c ≡ 2 ^ suc d = ap (λ x. 2 ^ x / 2 ^ c) e ∙ rw (pow-add 2 (suc d) c) (mul-div_cancel (2 ^ suc d) (pow_pos c)) in
        omega (arith, pow-succ' 2 d)

-- 8 bits to a byte
pub pow-bytes : (m : ℕ) → 256 ^ m ≡ 2 ^ (8 * m)
pow-bytes zero = refl
pow-bytes (suc m) =
    let e : 8 * suc m ≡ 8 + 8 * m = omega arith in
    rw (e, pow-add 2 8 (8 * m), pow-succ' 256 m, pow-bytes m)

-- to move a factor
regroup : (b y z x : ℕ) → b + y * z * x ≡ y * x * z + b
regroup b y z x =
    let e : y * z * x ≡ y * x * z = mul_assoc y z x ∙ rw (mul_comm z x) (sym (mul_assoc y x z)) in
    omega arith

-- a bit of the lowest byte of a number
bit-low : (b x v : ℕ) → v < 8 → bit (b + 256 * x) v ≡ bit b v
bit-low b x v h =
    let d : ℕ = 7 - v in
    let e : 8 ≡ suc d + v = omega arith in
    let q : 2 ^ 8 ≡ 2 ^ suc d * 2 ^ v = ap (λ n. 2 ^ n) e ∙ pow-add 2 (suc d) v in
    let r : b + 256 * x ≡ 2 ^ suc d * x * 2 ^ v + b = ap (λ n. b + n * x) q ∙ regroup b (2 ^ suc d) (2 ^ v) x in
    let z : (b + 256 * x) / 2 ^ v ≡ 2 ^ suc d * x + b / 2 ^ v = ap (λ n. n / 2 ^ v) r ∙ mul-add-div_right (pow_pos v) (2 ^ suc d * x) b in
    let two : 2 ^ suc d * x ≡ 2 * (2 ^ d * x) = rw (pow-succ' 2 d) (mul_assoc 2 (2 ^ d) x) in
    omega arith

-- a bit of a higher byte
bit_high : (b x v : ℕ) → b < 256 → bit (b + 256 * x) (8 + v) ≡ bit x v
bit_high b x v h =
    let q : (b + 256 * x) / 256 ≡ x = omega arith in
    let e : 2 ^ (8 + v) ≡ 256 * 2 ^ v = pow-add 2 8 v in
    let z : (b + 256 * x) / 2 ^ (8 + v) ≡ x / 2 ^ v = ap (λ n. (b + 256 * x) / n) e ∙ sym (div-div-eq-div-mul (b + 256 * x) 256 (2 ^ v)) ∙ ap (λ n. n / 2 ^ v) q in
    rw z

-- ---- strings

-- a list of bytes, from its elements
pub are_bytes-all : (s : List ℕ) → ((j : ℕ) → j < length s → get_or s j 0 < 256) → are_bytes s ≡ true
are_bytes-all [] h = are_bytes-nil
are_bytes-all (b ∷ s) h = rw (are_bytes-cons, lt-ltb b 256 (h 0 (omega arith))) (are_bytes-all s (λ j l. h (suc j) (omega arith)))

-- the first n of a list of bytes
pub are_bytes-first : (n : ℕ) (s : List ℕ) → ((j : ℕ) → get_or s j 0 < 256) → n ≤ length s → are_bytes (take n s) ≡ true
are_bytes-first n s h fits =
    are_bytes-all (take n s) (λ j l. rw (get_or-take n s j 0 (omega (arith, length-take-le n s fits))) (h j))

-- bit v of the number that a string says is bit v of the string: byte v/8, low bit first
pub bit-number : (s : List ℕ) → are_bytes s ≡ true → (v : ℕ) → bit (set_of_bits s) v ≡ string_bit s v
bit-number [] h v = rw number-nil (bit-none v ∙ sym (bit-none (v % 8)))
bit-number (b ∷ s) h v = go (bit-number s (are_bytes-tail b s h)) (dec_lt v 8)
  where
    go : ((w : ℕ) → bit (set_of_bits s) w ≡ string_bit s w) → Dec (v < 8) → bit (number_of (b ∷ s)) v ≡ string_bit (b ∷ s) v
    go ih (yes l) =
        let i : v / 8 ≡ 0 = omega arith in
        let j : v % 8 ≡ v = omega arith in
        rw (number-cons b s, i, j) (bit-low b (number_of s) v l)
    go ih (no l) =
        let w : ℕ = v - 8 in
        let e : v ≡ 8 + w = omega arith in
        let i : v / 8 ≡ suc (w / 8) = omega arith in
        let j : v % 8 ≡ w % 8 = omega arith in
        rw (number-cons b s, i, j)
        (ap (bit (b + 256 * number_of s)) e ∙ bit_high b (number_of s) w (are_bytes-head b s h) ∙ ih w)

-- a string is decided by its bits
pub string-ext : (m : ℕ) (s : List ℕ) (F : ℕ) → are_bytes s ≡ true → length s ≡ m → F < 256 ^ m
    → ((v : ℕ) → v < 8 * m → string_bit s v ≡ bit F v) → s ≡ bytes_of m F
string-ext m s F bytes long small same =
    let b : number_of s < 2 ^ (8 * m) = rw (← pow-bytes m, ← long) (number_lt s bytes) in
    let e : number_of s ≡ F = bit-ext (8 * m) (number_of s) F b (rw (← pow-bytes m) small) (λ v c. bit-number s bytes v ∙ same v c) in
    sym (bytes_of-number s bytes) ∙ ap₂ bytes_of long e

-- a set of forks fits the string
pub set-fits : (k F : ℕ) → F < 2 ^ 2 ^ k → F < 256 ^ byte_count (2 ^ k)
set-fits k F h =
    rw (pow-bytes (byte_count (2 ^ k))) (omega (arith, pow_mono {i = 2 ^ k} {j = 8 * byte_count (2 ^ k)} (omega arith)))

-- the string of a set says that set
pub set-of-string : (k F : ℕ) → F < 2 ^ 2 ^ k → set_of_bits (bit_string k F) ≡ F
set-of-string k F h = number-bytes_of (byte_count (2 ^ k)) F (set-fits k F h)

-- the set that a string says has that string
pub string-of-set : (k : ℕ) (s : List ℕ) → are_bytes s ≡ true → length s ≡ byte_count (2 ^ k) → bit_string k (set_of_bits s) ≡ s
string-of-set k s bytes long = rw (← long) (bytes_of-number s bytes)

-- 'bit v of the string is fork v'
pub bit-string : (k F : ℕ) → F < 2 ^ 2 ^ k → (v : ℕ) → string_bit (bit_string k F) v ≡ bit F v
bit-string k F h v =
    sym (bit-number (bit_string k F) (are_bytes-bytes_of (byte_count (2 ^ k)) F) v) ∙ ap (λ x. bit x v) (set-of-string k F h)

-- ---- the first byte decides what is outside 1 to n - 1

-- a string's last bit
pub first-odd : (m : ℕ) (s : List ℕ) → 0 < m → set_of_bits (take m s) % 2 ≡ get_or s 0 0 % 2
first-odd zero s h = absurd (omega arith)
first-odd (suc m) [] h = rw number-nil
first-odd (suc m) (b ∷ s) h = rw (number-cons b (take m s)) (omega arith)

-- below 8 bits a string is one byte
pub short-string : (k : ℕ) → k < 3 → byte_count (2 ^ k) ≡ 1
short-string k h = omega (arith, pow_pos k, pow_mono {i = k} {j = 2} (omega arith))

-- from 8 bits on it has no bit beyond n
pub long-string : (k : ℕ) (s : List ℕ) → 3 ≤ k → are_bytes s ≡ true → length s ≡ byte_count (2 ^ k) → set_of_bits s < 2 ^ 2 ^ k
long-string k s h bytes long =
    let d : ℕ = k - 3 in
    let e : k ≡ 3 + d = omega arith in
    let q : 2 ^ k ≡ 8 * 2 ^ d = ap (λ n. 2 ^ n) e ∙ pow-add 2 3 d in
    let m : 8 * length s ≡ 2 ^ k = omega arith in
    rw (pow-bytes (length s), m) at (number_lt s bytes)

-- ---- sets of forks

module _ (k F : ℕ) where
  -- a set of forks is an even number below 2^n
  pub only-forks : only_forks k F ≡ true → (F % 2 ≡ 0) × (F < 2 ^ 2 ^ k)
  unfolding only_forks
  only-forks h = let e = both (eqb (F % 2) 0) (ltb F (2 ^ 2 ^ k)) h in (eqb-true _ _ e.0, ltb-true _ _ e.1)

  -- and any such number is one
  pub forks-only : F % 2 ≡ 0 → F < 2 ^ 2 ^ k → only_forks k F ≡ true
  unfolding only_forks
  forks-only e s = rw (eq-eqb _ _ e, lt-ltb _ _ s)

  -- an odd number is none
  pub odd-not : (F % 2 ≡ 0 → ⊥) → only_forks k F ≡ false
  odd-not h = go (only_forks k F) refl
    where
      go : (t : Bool) → only_forks k F ≡ t → only_forks k F ≡ false
      go true e = absurd (h (only-forks e).0)
      go false e = e

  -- and none from 2^n on
  pub large-not : 2 ^ 2 ^ k ≤ F → only_forks k F ≡ false
  large-not h = go (only_forks k F) refl
    where
      go : (t : Bool) → only_forks k F ≡ t → only_forks k F ≡ false
      go true e = absurd (omega (arith, (only-forks e).1))
      go false e = e

  -- the test in words: no bit outside 1 to n - 1 is set
  pub only_forks-iff : (only_forks k F ≡ true) ↔ ((v : ℕ) → bit F v ≡ 1 → (1 ≤ v) × (v < 2 ^ k))
  only_forks-iff = (there, back)
    where
      there : only_forks k F ≡ true → (v : ℕ) → bit F v ≡ 1 → (1 ≤ v) × (v < 2 ^ k)
      there h v e = (low v e, high (dec_lt v (2 ^ k)))
        where
          low : (v : ℕ) → bit F v ≡ 1 → 1 ≤ v
          low zero e = absurd (omega (arith, bit-zero F, (only-forks h).0))
          low (suc v) e = omega arith

          high : Dec (v < 2 ^ k) → v < 2 ^ k
          high (yes l) = l
          high (no l) = absurd (omega (arith, bit_past F (2 ^ k) v (only-forks h).1 (omega arith)))

      back : ((v : ℕ) → bit F v ≡ 1 → (1 ≤ v) × (v < 2 ^ k)) → only_forks k F ≡ true
      back h = forks-only even small
        where
          out : (v : ℕ) → 2 ^ k ≤ v → bit F v ≡ 0
          out v l = go (bit F v) refl (bit-lt F v)
            where
              go : (x : ℕ) → bit F v ≡ x → x < 2 → bit F v ≡ 0
              go zero e b = e
              go (suc x) e b = let o : bit F v ≡ 1 = omega arith in absurd (omega (arith, (h v o).1))

          even : F % 2 ≡ 0
          even = go (F % 2) refl
            where
              go : (x : ℕ) → F % 2 ≡ x → F % 2 ≡ 0
              go zero e = e
              go (suc x) e = let o : bit F 0 ≡ 1 = omega (arith, bit-zero F) in absurd (omega (arith, (h 0 o).0))

          none : F / 2 ^ 2 ^ k ≡ 0
          none =
              let q : ℕ = F / 2 ^ 2 ^ k in
              bit-ext q q 0 (below-pow q) (pow_pos q) (λ b c. ap (λ x. x % 2) (shr-shr F (2 ^ k) b) ∙ out (2 ^ k + b) (omega arith) ∙ sym (bit-none b))

          small : F < 2 ^ 2 ^ k
          small = rw one-mul at ((div-lt_iff_lt-mul {x = F} {y = 1} (pow_pos (2 ^ k))).0 (omega (arith, none)))

  -- a set that is judged: itself, or 12
  pub judge-forks : only_forks k F ≡ true → judge_forks k F ≡ gives F
  unfolding judge_forks
  judge-forks h = rw h

  pub judge-outside : only_forks k F ≡ false → judge_forks k F ≡ refuses wrong_forks
  unfolding judge_forks
  judge-outside h = rw h

  pub judged-forks : number (judge_forks k F) ≡ 0 → only_forks k F ≡ true
  unfolding judge_forks
  judged-forks e = (passed (only_forks k F) wrong_forks (gives F) (omega arith) e).holds

-- ---- one bit set

module _ (s : List ℕ) (v : ℕ) (in-string : v / 8 < length s) where
  -- as many bytes
  pub length-raised : length (raised s v) ≡ length s
  unfolding raised
  length-raised = length-set s (v / 8) _

  -- the same beyond
  pub drop-raised : (m : ℕ) → v / 8 < m → drop m (raised s v) ≡ drop m s
  unfolding raised
  drop-raised m l = drop-set-lt m s (v / 8) _ l

  -- the bit is set
  pub raised-same : string_bit (raised s v) v ≡ 1
  unfolding raised
  raised-same =
      rw (get_or-set_same s (v / 8) (bit_or (get_or s (v / 8) 0) (2 ^ (v % 8))) 0 in-string, bit-or, bit-pow)
      (omega (arith, bit-lt (get_or s (v / 8) 0) (v % 8)))

  -- and no other is changed
  pub raised-other : (w : ℕ) → w ≢ v → string_bit (raised s v) w ≡ string_bit s w
  unfolding raised
  raised-other w h = go (equal (w / 8) (v / 8))
    where
      go : Dec (w / 8 ≡ v / 8) → string_bit (set s (v / 8) (bit_or (get_or s (v / 8) 0) (2 ^ (v % 8)))) w ≡ string_bit s w
      go (yes e) =
          let d : w % 8 ≢ v % 8 = λ q. h (omega arith) in
          rw (e, get_or-set_same s (v / 8) (bit_or (get_or s (v / 8) 0) (2 ^ (v % 8))) 0 in-string, bit-or, bit-pow-other (v % 8) (w % 8) d) (omega arith)
      go (no e) = rw (get_or-set_other s (v / 8) (w / 8) (bit_or (get_or s (v / 8) 0) (2 ^ (v % 8))) 0 e)

  -- bytes stay bytes
  pub raised-bytes : ((j : ℕ) → get_or s j 0 < 256) → (j : ℕ) → get_or (raised s v) j 0 < 256
  unfolding raised
  raised-bytes h j = go (equal j (v / 8))
    where
      go : Dec (j ≡ v / 8) → get_or (set s (v / 8) (bit_or (get_or s (v / 8) 0) (2 ^ (v % 8)))) j 0 < 256
      go (yes e) =
          rw (e, get_or-set_same s (v / 8) (bit_or (get_or s (v / 8) 0) (2 ^ (v % 8))) 0 in-string)
          (or_lt 8 (get_or s (v / 8) 0) (2 ^ (v % 8)) (h (v / 8)) (pow-lt {i = v % 8} {j = 8} (omega arith)))
      go (no e) = rw (get_or-set_other s (v / 8) j (bit_or (get_or s (v / 8) 0) (2 ^ (v % 8))) 0 e) (h j)
