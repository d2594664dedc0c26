-- Laws of strings in which the bits of another are inverted: the set of such a string is the symmetric difference of the two sets.
use mathlib.Core.Path.{◌≡◌, refl, ap, ◌∙◌}
use mathlib.Core.Bool.{true}
use mathlib.Core.List.{List, [], ◌∷◌, ◌++◌}
use Prim.Native.Nat.{ℕ, zero, suc, ◌+◌, ◌*◌, ◌^◌, ◌≤◌, ◌<◌}
use native.Mathlib.Omega.{arith}
use lib.Bits.{bit_xor, xor_block, xor_lt}
use lib.ListN.{length, get_or, set, take, drop}
use lib.Seq.{drop-cons, get_or_at, get_or-take}
use borrow.Author.Tests.{lt-ltb}
use Rattle.base.specs.Outcome.{over}
use Rattle.base.specs.Lists.{tabulate}
use Rattle.base.proofs.Lists.{length-tabulate, tabulate-more, tabulate-cong}
use Rattle.base.proofs.Outcome.{over-front, over-long}
use Rattle.records.specs.Field.{are_bytes}
use Rattle.records.proofs.FieldLaws.{number-nil, number-cons, length-bytes_of, are_bytes-nil, are_bytes-cons, are_bytes-head, are_bytes-tail, are_bytes-bytes_of}
use Rattle.orders.specs.Bits.{byte_count, bit_string, set_of_bits}
use Rattle.orders.specs.Lent.{forks_in}
use Rattle.orders.specs.Exchange.{inverted}
use Rattle.orders.proofs.Bits.{are_bytes-first, set-of-string}

-- m bytes
pub length-inverted : (m : ℕ) (s t : List ℕ) → length (inverted m s t) ≡ m
unfolding inverted
length-inverted m s t = length-tabulate m (λ i. bit_xor (get_or s i 0) (get_or t i 0))

-- no byte, and one more, in a buffer that holds the string s
pub inverted-none : (s t : List ℕ) → s ≡ inverted 0 s t ++ drop 0 s
unfolding inverted
inverted-none s t = refl

pub inverted-more : (i : ℕ) (s t buffer : List ℕ) → i < length s → buffer ≡ inverted i s t ++ drop i s
    → set buffer i (bit_xor (get_or buffer i 0) (get_or t i 0)) ≡ inverted (i + 1) s t ++ drop (i + 1) s
unfolding inverted
inverted-more i s t buffer b e =
    let f : ℕ → ℕ = λ j. bit_xor (get_or s j 0) (get_or t j 0) in
    let here : get_or (tabulate i f ++ drop i s) i 0 ≡ get_or s i 0
    = rw (drop-cons s i 0 b) (get_or_at (tabulate i f) (get_or s i 0) (drop (suc i) s) 0 i (length-tabulate i f)) in
    rw (e, here) (tabulate-more i f s 0 b)

-- only the first m bytes count
pub inverted-front : (m : ℕ) (s t : List ℕ) → inverted m (take m s) t ≡ inverted m s t
unfolding inverted
inverted-front m s t =
    tabulate-cong m (λ i. bit_xor (get_or (take m s) i 0) (get_or t i 0)) (λ i. bit_xor (get_or s i 0) (get_or t i 0)) (λ i b. rw (get_or-take m s i 0 b))

-- bytes stay bytes
pub inverted-bytes : (m : ℕ) (s t : List ℕ) → are_bytes (take m s) ≡ true → are_bytes (take m t) ≡ true → m ≤ length s → m ≤ length t → are_bytes (inverted m s t) ≡ true
unfolding inverted
inverted-bytes zero s t a b x y = are_bytes-nil
inverted-bytes (suc m) [] t a b x y = absurd (omega arith)
inverted-bytes (suc m) (c ∷ s) [] a b x y = absurd (omega arith)
inverted-bytes (suc m) (c ∷ s) (d ∷ t) a b x y =
    rw (are_bytes-cons, lt-ltb (bit_xor c d) 256 (xor_lt 8 c d (are_bytes-head c (take m s) a) (are_bytes-head d (take m t) b)))
    (inverted-bytes m s t (are_bytes-tail c (take m s) a) (are_bytes-tail d (take m t) b) (omega arith) (omega arith))

-- the exclusive or of two strings says that of their sets
pub set-inverted : (m : ℕ) (s t : List ℕ) → are_bytes (take m s) ≡ true → are_bytes (take m t) ≡ true → m ≤ length s → m ≤ length t
    → set_of_bits (inverted m s t) ≡ bit_xor (set_of_bits (take m s)) (set_of_bits (take m t))
unfolding inverted
set-inverted zero s t a b x y = rw number-nil
set-inverted (suc m) [] t a b x y = absurd (omega arith)
set-inverted (suc m) (c ∷ s) [] a b x y = absurd (omega arith)
set-inverted (suc m) (c ∷ s) (d ∷ t) a b x y =
    let S : ℕ = set_of_bits (take m s) in
    let T : ℕ = set_of_bits (take m t) in
    let rest : set_of_bits (tabulate m (λ i. bit_xor (get_or s i 0) (get_or t i 0))) ≡ bit_xor S T
    = set-inverted m s t (are_bytes-tail c (take m s) a) (are_bytes-tail d (take m t) b) (omega arith) (omega arith) in
    let i : c + 256 * S ≡ S * 256 + c = omega arith in
    let j : d + 256 * T ≡ T * 256 + d = omega arith in
    let whole : bit_xor (S * 256 + c) (T * 256 + d) ≡ bit_xor S T * 256 + bit_xor c d
    = xor_block 8 S T c d (are_bytes-head c (take m s) a) (are_bytes-head d (take m t) b) in
    rw (number-cons (bit_xor c d) _, number-cons c (take m s), number-cons d (take m t), rest, i, j, whole) (omega arith)

-- where a buffer holds the string of a set F first, and the bits of a lent string are inverted in it
module _ (k F count : ℕ) (before own own' bits : List ℕ) (bytes : (j : ℕ) → get_or bits j 0 < 256) (long : byte_count (2 ^ k) ≤ length bits)
    (e : count ≡ byte_count (2 ^ k)) (f : own ≡ over (bit_string k F) before) (g : own' ≡ over (inverted count own bits) own) where
  abbrev m : ℕ
  m = byte_count (2 ^ k)

  front : take m own ≡ bit_string k F
  front = rw f (over-front m (bit_string k F) before (length-bytes_of m F))

  fits : m ≤ length own
  fits = rw f (over-long m (bit_string k F) before (length-bytes_of m F))

  own-bytes : are_bytes (take m own) ≡ true
  own-bytes = rw front (are_bytes-bytes_of m F)

  made : take m own' ≡ inverted m own bits
  made = rw (g, e) (over-front m (inverted m own bits) own (length-inverted m own bits))

  -- it says the exclusive or
  pub string-inverted : F < 2 ^ 2 ^ k → forks_in k own' ≡ bit_xor F (forks_in k bits)
  string-inverted small =
      ap set_of_bits made
      ∙ set-inverted m own bits own-bytes (are_bytes-first m bits bytes long) fits long
      ∙ rw (front, set-of-string k F small)

  -- in bytes
  pub string-bytes : are_bytes (take m own') ≡ true
  string-bytes = rw made (inverted-bytes m own bits own-bytes (are_bytes-first m bits bytes long) fits long)
