-- Laws of records: which test decides; a written record is taken whole, and a taken record is the written one.
use mathlib.Core.Path.{◌≡◌, refl, sym, ap, ◌∙◌}
use mathlib.Core.Bool.{Bool, true, false}
use mathlib.Core.List.{List, ◌++◌, append_assoc}
use Prim.Native.Nat.{ℕ, ◌+◌, ◌-◌, ◌≤◌, ◌<◌}
use native.Mathlib.Omega.{arith}
use lib.Dec.{leb, eqb}
use lib.ListN.{length, take, drop, length-append, length-drop, take-append-drop}
use lib.Seq.{length-take-le, take_at, drop_at, drop-drop}
use borrow.Author.Tests.{le-leb, lt-leb, eq-eqb, ne_eqb, leb-true, eqb-true}
use Rattle.base.proofs.Bools.{and_right}
use Rattle.records.specs.Field.{number_of, bytes_of, are_bytes}
use Rattle.base.specs.Outcome.{Outcome, gives, refuses, number}
use Rattle.records.specs.Record.{take_record, Taken, taken, kind_said, length_said, is_due, is_kind, record_bytes}
use Rattle.records.proofs.FieldLaws.{length-bytes_of, number-bytes_of, bytes_of-number, are_bytes-take, are_bytes-drop}

-- ---- which test decides

module _ (kind long : ℕ) (s : List ℕ) where
  pub too_short : length s < 4 → take_record kind long s ≡ refuses 1
  unfolding take_record
  too_short h = rw (lt-leb _ _ h)

  pub other-kind : 4 ≤ length s → is_due kind (kind_said s) ≡ false → take_record kind long s ≡ refuses 3
  unfolding take_record
  other-kind h d = rw (le-leb _ _ h, d)

  pub other_length : 4 ≤ length s → is_due kind (kind_said s) ≡ true → (length_said s ≡ long → ⊥) → take_record kind long s ≡ refuses 2
  unfolding take_record
  other_length h d l = rw (le-leb _ _ h, d, ne_eqb _ _ l)

  pub cut_off : 4 ≤ length s → is_due kind (kind_said s) ≡ true → length_said s ≡ long → length s < 2 + long → take_record kind long s ≡ refuses 1
  unfolding take_record
  cut_off h d l e = rw (le-leb _ _ h, d, eq-eqb _ _ l, lt-leb _ _ e)

  pub whole : 4 ≤ length s → is_due kind (kind_said s) ≡ true → length_said s ≡ long → 2 + long ≤ length s → take_record kind long s ≡ gives (taken (take (long - 2) (drop 4 s)) (drop (2 + long) s))
  unfolding take_record
  whole h d l e = rw (le-leb _ _ h, d, eq-eqb _ _ l, le-leb _ _ e)

-- what is known of a record that was taken
pub record Whole (kind long : ℕ) (s content rest : List ℕ) : Type 0 where
  pub present : 4 ≤ length s
  pub due : is_due kind (kind_said s) ≡ true
  pub says : length_said s ≡ long
  pub enough : 2 + long ≤ length s
  pub content-is : content ≡ take (long - 2) (drop 4 s)
  pub rest-is : rest ≡ drop (2 + long) s

module _ (kind long : ℕ) (s : List ℕ) where
  -- a claim about what stands at the front of bytes is shown for a whole record and for each refusal, whose number is not 0
  pub by-taken : (P : Outcome Taken → Type 0) → (Whole kind long s (take (long - 2) (drop 4 s)) (drop (2 + long) s) → P (gives (taken (take (long - 2) (drop 4 s)) (drop (2 + long) s)))) → ((n : ℕ) → (n ≡ 0 → ⊥) → P (refuses n)) → P (take_record kind long s)
  unfolding take_record
  by-taken P good bad =
      by-tests (leb 4 (length s)) (is_due kind (kind_said s)) (eqb (length_said s) long) (leb (2 + long) (length s)) refl refl refl refl
    where
      by-tests : (size due said end : Bool) → leb 4 (length s) ≡ size → is_due kind (kind_said s) ≡ due → eqb (length_said s) long ≡ said → leb (2 + long) (length s) ≡ end → P (take_record kind long s)
      by-tests true true true true h d l e =
          simp (h, d, l, e) (good (record { present = leb-true _ _ h; due = d; says = eqb-true _ _ l; enough = leb-true _ _ e; content-is = refl; rest-is = refl }))
      by-tests true false true end h d l e = simp (h, d, l, e) (bad _ (λ z. omega arith))
      by-tests size due said end h d l e = simp (h, d, l, e) (bad _ (λ z. omega arith))

pub taken-whole : (kind long : ℕ) (s content rest : List ℕ) → take_record kind long s ≡ gives (taken content rest) → Whole kind long s content rest
taken-whole kind long s content rest =
    by-taken kind long s (λ t. t ≡ gives (taken content rest) → Whole kind long s content rest)
    (λ w e.
    let same : taken content rest ≡ taken (take (long - 2) (drop 4 s)) (drop (2 + long) s) = cc in
    record { present = w.present; due = w.due; says = w.says; enough = w.enough; content-is = ap (λ (t : Taken). t.content) same; rest-is = ap (λ (t : Taken). t.rest) same })
    (λ n f e. absurd (let z : ◌≡◌ {A = ℕ} 0 1 = cc in omega arith))

-- the number 0 is that of a whole record
pub number-good : (kind long : ℕ) (s : List ℕ) → number (take_record kind long s) ≡ 0 → take_record kind long s ≡ gives (taken (take (long - 2) (drop 4 s)) (drop (2 + long) s))
number-good kind long s =
    by-taken kind long s (λ t. number t ≡ 0 → t ≡ gives (taken (take (long - 2) (drop 4 s)) (drop (2 + long) s)))
    (λ w e. refl)
    (λ n f e. absurd (f e))

-- ---- a written record is taken whole

pub length-record_bytes : (kind : ℕ) (content : List ℕ) → length (record_bytes kind content) ≡ 4 + length content
unfolding record_bytes
length-record_bytes kind content = rw (length-append, length-append, length-bytes_of, length-bytes_of) (omega arith)

module _ (kind : ℕ) (content rest : List ℕ) where
  written : List ℕ
  written = record_bytes kind content ++ rest

  parts : written ≡ bytes_of 2 (2 + length content) ++ (bytes_of 2 kind ++ (content ++ rest))
  unfolding written record_bytes
  parts = simp append_assoc

  after-length : drop 2 written ≡ bytes_of 2 kind ++ (content ++ rest)
  after-length = rw parts (drop_at (bytes_of 2 (2 + length content)) (bytes_of 2 kind ++ (content ++ rest)) 2 (length-bytes_of 2 _))

  after-kind : drop 4 written ≡ content ++ rest
  after-kind =
      sym (drop-drop 2 2 written) ∙ rw after-length (drop_at (bytes_of 2 kind) (content ++ rest) 2 (length-bytes_of 2 _))

  after-record : drop (4 + length content) written ≡ rest
  after-record = sym (drop-drop (length content) 4 written) ∙ rw after-kind (drop_at content rest (length content) refl)

  length-said : 2 + length content < 65536 → length_said written ≡ 2 + length content
  unfolding length_said
  length-said h =
      rw (parts, take_at (bytes_of 2 (2 + length content)) (bytes_of 2 kind ++ (content ++ rest)) 2 (length-bytes_of 2 _))
      (number-bytes_of 2 (2 + length content) h)

  kind-said : kind < 65536 → kind_said written ≡ kind
  unfolding kind_said
  kind-said h =
      rw (after-length, take_at (bytes_of 2 kind) (content ++ rest) 2 (length-bytes_of 2 _)) (number-bytes_of 2 kind h)

  pub take-written : (long : ℕ) → is_kind kind ≡ true → long ≡ 2 + length content → long < 65536 → take_record kind long (record_bytes kind content ++ rest) ≡ gives (taken content rest)
  unfolding is_due is_kind written
  take-written long k e l =
      let small : kind ≤ 7 = leb-true kind 7 (and_right (leb 1 kind) (leb kind 7) k) in
      let size : length written ≡ 4 + length content + length rest = rw (length-append, length-record_bytes) in
      let said : kind_said written ≡ kind = kind-said (omega arith) in
      let says : length_said written ≡ long = length-said (omega arith) ∙ sym e in
      let due : is_due kind (kind_said written) ≡ true = rw (said, k) (eq-eqb kind kind refl) in
      let inner : long - 2 ≡ length content = omega arith in
      let outer : 2 + long ≡ 4 + length content = omega arith in
      whole kind long written (omega arith) due says (omega arith)
      ∙ rw (inner, outer, after-record, after-kind, take_at content rest (length content) refl)

-- ---- a taken record is the written one

pub due-kind : (kind found : ℕ) → is_due kind found ≡ true → found ≡ kind
unfolding is_due
due-kind kind found h = sym (eqb-true kind found (and_right (is_kind found) (eqb kind found) h))

pub taken-written : (kind long : ℕ) (s content rest : List ℕ) → are_bytes s ≡ true → 2 ≤ long → take_record kind long s ≡ gives (taken content rest) → (s ≡ record_bytes kind content ++ rest) × (2 + length content ≡ long)
unfolding record_bytes kind_said length_said
taken-written kind long s content rest bytes two e =
    let w = taken-whole kind long s content rest e in
    let present : 4 ≤ length s = w.present in
    let enough : 2 + long ≤ length s = w.enough in
    let len : length (take (long - 2) (drop 4 s)) ≡ long - 2 = length-take-le (long - 2) (drop 4 s) (rw length-drop (omega arith)) in
    let size : 2 + length content ≡ long = rw (w.content-is, len) (omega arith) in
    let len₁ : length (take 2 s) ≡ 2 = length-take-le 2 s (omega arith) in
    let len₂ : length (take 2 (drop 2 s)) ≡ 2 = length-take-le 2 (drop 2 s) (rw length-drop (omega arith)) in
    let first : bytes_of 2 (2 + length content) ≡ take 2 s =
    rw (size, ← w.says) (ap (λ (n : ℕ). bytes_of n (number_of (take 2 s))) (sym len₁) ∙ bytes_of-number (take 2 s) (are_bytes-take 2 s bytes)) in
    let second : bytes_of 2 kind ≡ take 2 (drop 2 s) =
    ap (bytes_of 2) (sym (due-kind kind (number_of (take 2 (drop 2 s))) w.due))
    ∙ ap (λ (n : ℕ). bytes_of n (number_of (take 2 (drop 2 s)))) (sym len₂)
    ∙ bytes_of-number (take 2 (drop 2 s)) (are_bytes-take 2 (drop 2 s) (are_bytes-drop 2 s bytes)) in
    let past : 4 + (long - 2) ≡ 2 + long = omega arith in
    let whole_is : take 2 s ++ (take 2 (drop 2 s) ++ (take (long - 2) (drop 4 s) ++ drop (2 + long) s)) ≡ s =
    ap (λ (r : List ℕ). take 2 s ++ (take 2 (drop 2 s) ++ (take (long - 2) (drop 4 s) ++ r))) (ap (λ (n : ℕ). drop n s) (sym past) ∙ sym (drop-drop (long - 2) 4 s))
    ∙ ap (λ (r : List ℕ). take 2 s ++ (take 2 (drop 2 s) ++ r)) (take-append-drop (long - 2) (drop 4 s) ∙ sym (drop-drop 2 2 s))
    ∙ ap (λ (r : List ℕ). take 2 s ++ r) (take-append-drop 2 (drop 2 s))
    ∙ take-append-drop 2 s in
    (sym (rw (first, second, w.content-is, w.rest-is) (simp append_assoc whole_is)), size)
