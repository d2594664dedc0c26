-- The bytes that say which stops are filled.
use mathlib.Core.Path.{◌≡◌, refl, sym, ap, ◌∙◌}
use mathlib.Core.Bool.{Bool, true, false, cond, ◌&&◌}
use mathlib.Core.List.{List, [], ◌∷◌}
use Prim.Native.Nat.{ℕ, zero, suc, ◌+◌, ◌*◌, ◌%◌, ◌^◌, ◌≤◌, ◌<◌}
use native.Mathlib.Nat.{one-mul, pow-succ'}
use native.Mathlib.Numerals.{add-one}
use native.Mathlib.Omega.{arith}
use borrow.Author.Tests.{leb-true, eq-eqb, ne_eqb}
use lib.Dec.{leb}
use lib.ListN.{length, get_or, take, get_or-eq_default}
use lib.Pow.{pow_mono, shl_exact}
use lib.Seq.{get_or-take, length-take-le}
use Rattle.std.specs.List.{list_all}
use Rattle.base.proofs.Bools.{both}
use Rattle.tree.proofs.Bit.{num_of, num_of-lt}
use Rattle.filled.specs.Filled.{filled_in, flags}
use Rattle.filled.specs.Row.{in_set, set_of}
use Rattle.filled.proofs.Bitset.{digit, set_more, set_is}

-- ---- bytes that are 0 or 1

flags-all : (bytes : List ℕ) → flags bytes ≡ true → (i : ℕ) → i < length bytes → get_or bytes i 0 ≤ 1
unfolding flags
flags-all [] h i b = absurd (omega arith)
flags-all (a ∷ bytes) h zero b = leb-true a 1 (both (leb a 1) (flags bytes) h).0
flags-all (a ∷ bytes) h (suc i) b = flags-all bytes (both (leb a 1) (flags bytes) h).1 i (omega arith)

pub flags-each : (bytes : List ℕ) (n : ℕ) → n ≤ length bytes → flags (take n bytes) ≡ true → (i : ℕ) → i < n → get_or bytes i 0 ≤ 1
flags-each bytes n l e i b = omega (arith, flags-all (take n bytes) e i (omega (arith, length-take-le n bytes l)), get_or-take n bytes i 0 b)

-- the library's test of each byte
pub flags-are : (bytes : List ℕ) → list_all (λ b. leb b 1) bytes ≡ flags bytes
unfolding flags
flags-are [] = refl
flags-are (b ∷ bytes) = ap (λ x. leb b 1 && x) (flags-are bytes)

-- ---- the set of the filled stops

-- what stands for a byte that is there does not depend on what stands for one that is not
get_or-any : (l : List ℕ) (i d e : ℕ) → i < length l → get_or l i d ≡ get_or l i e
get_or-any [] i d e b = absurd (omega arith)
get_or-any (a ∷ l) zero d e b = refl
get_or-any (a ∷ l) (suc i) d e b = get_or-any l i d e (omega arith)

-- a byte 0 is a filled stop, another an empty one
pub byte-filled : (bytes : List ℕ) (i : ℕ) → i < length bytes → get_or bytes i 0 ≡ 0 → filled_in bytes i ≡ true
unfolding filled_in
byte-filled bytes i b e = eq-eqb (get_or bytes i 1) 0 (get_or-any bytes i 1 0 b ∙ e)

pub byte-empty : (bytes : List ℕ) (i : ℕ) → i < length bytes → (get_or bytes i 0 ≡ 0 → ⊥) → filled_in bytes i ≡ false
unfolding filled_in
byte-empty bytes i b e = ne_eqb (get_or bytes i 1) 0 (λ z. e (get_or-any bytes i 0 1 b ∙ z))

-- of the first n bytes only these count
pub filled-take : (bytes : List ℕ) (n i : ℕ) → i < n → filled_in (take n bytes) i ≡ filled_in bytes i
unfolding filled_in
filled-take bytes n i b = rw (get_or-take n bytes i 1 b)

-- the shift of a stop's bit
shift : (i : ℕ) → i < 64 → 1 * 2 ^ i % 2 ^ 64 ≡ 2 ^ i
shift i b = shl_exact 1 i 64 (omega arith) (omega arith) ∙ one-mul (2 ^ i)

-- a filled stop, and an empty one, in a set as code has it
pub with-filled : (bytes : List ℕ) (set i : ℕ) → i < length bytes → i < 64 → set < 2 ^ i → get_or bytes i 0 ≡ 0
    → (set + 1 * 2 ^ i % 2 ^ 64 < 2 ^ 64) × (set + 1 * 2 ^ i % 2 ^ 64 ≡ set + cond (filled_in bytes i) (2 ^ i) 0)
with-filled bytes set i b l s e = (omega (arith, shift i l, pow_mono {i = suc i} {j = 64} (omega arith), pow-succ' 2 i), rw (shift i l, byte-filled bytes i b e))

pub with-empty : (bytes : List ℕ) (set i : ℕ) → i < length bytes → (get_or bytes i 0 ≡ 0 → ⊥) → set ≡ set + cond (filled_in bytes i) (2 ^ i) 0
with-empty bytes set i b e = rw (byte-empty bytes i b e) (omega arith)

-- the set while it is made
set-as : (s : ℕ → Bool) (n : ℕ) → set_of s n ≡ num_of (digit s) n
unfolding set_of num_of
set-as s zero = refl
set-as s (suc n) = rw (set-as s n) (sym (ap (num_of (digit s)) (sym (add-one n)) ∙ set_more s n))

pub set-lt : (s : ℕ → Bool) (n : ℕ) → set_of s n < 2 ^ n
set-lt s n = rw (set-as s n) (num_of-lt (digit s) n)

pub set-none : (s : ℕ → Bool) → 0 ≡ set_of s 0
unfolding set_of
set-none s = refl

pub set_next : (bytes : List ℕ) (i set r : ℕ) → set ≡ set_of (filled_in bytes) i → r ≡ set + cond (filled_in bytes i) (2 ^ i) 0 → r ≡ set_of (filled_in bytes) (i + 1)
unfolding set_of
set_next bytes i set r e f = f ∙ rw (add-one i, e)

-- IT HOLDS EXACTLY THE FILLED STOPS
pub set-filled : (bytes : List ℕ) (n : ℕ) → n ≤ length bytes → in_set (set_of (filled_in (take n bytes)) n) ≡ filled_in (take n bytes)
unfolding filled_in
set-filled bytes n l = ap in_set (set-as (filled_in (take n bytes)) n) ∙ set_is (filled_in (take n bytes)) n
    (λ i b. rw (get_or-eq_default (take n bytes) 1 {n = i} (omega (arith, length-take-le n bytes l))))
