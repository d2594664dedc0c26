-- The fields of a text are the parts that a split at the separator gives.
use Rattle.std.proofs.Common.{◌≡◌, ℕ, zero, suc, Bool, true, false, cond, eqb, List, [], ◌∷◌, Option, Some, None, refl, ap, ◌∙◌}
use Rattle.std.specs.List.{slice_get, slice_split, onto_first}
use Rattle.std.specs.Option.{unwrap_or, option_map}
use denote.Ref.{Bor}
use Rattle.test_support.specs.Text.{up_to, past, field_of}

-- part i, and nothing past the last one
abbrev pub part : (parts : List (List ℕ)) (i : ℕ) → List ℕ
part parts i = unwrap_or (slice_get parts i) []

-- one more byte before the first separator stands in part 0
head : (b : ℕ) (parts : List (List ℕ)) → part (onto_first b parts) 0 ≡ b ∷ part parts 0
head b [] = refl
head b (p ∷ parts) = refl

-- and leaves the other parts
other : (b : ℕ) (parts : List (List ℕ)) (i : ℕ) → part (onto_first b parts) (suc i) ≡ part parts (suc i)
other b [] i = refl
other b (p ∷ parts) i = refl

-- a text of no bytes has only empty fields
empty : (s i : ℕ) → field_of s i [] ≡ []
unfolding field_of up_to past
empty s zero = refl
empty s (suc i) = empty s i

-- so part i of a text that is cut at each separator is field i
pub part_field : (s : ℕ) (text : List ℕ) (i : ℕ) → part (slice_split (λ b. eqb b s) text) i ≡ field_of s i text
unfolding field_of up_to past
part_field s [] zero = refl
part_field s [] (suc i) = rw (empty s i)
part_field s (b ∷ text) zero = go (eqb b s) (part_field s text 0)
  where
    go : (t : Bool) → part (slice_split (λ b. eqb b s) text) 0 ≡ up_to s text → part (cond t ([] ∷ slice_split (λ b. eqb b s) text) (onto_first b (slice_split (λ b. eqb b s) text))) 0 ≡ cond t [] (b ∷ up_to s text)
    go true e = refl
    go false e = head b _ ∙ ap (λ l. b ∷ l) e
part_field s (b ∷ text) (suc i) = go (eqb b s) (part_field s text)
  where
    go : (t : Bool) → ((i : ℕ) → part (slice_split (λ b. eqb b s) text) i ≡ field_of s i text) → part (cond t ([] ∷ slice_split (λ b. eqb b s) text) (onto_first b (slice_split (λ b. eqb b s) text))) (suc i) ≡ field_of s i (cond t text (past s text))
    go true e = e i
    go false e = other b _ i ∙ e (suc i)

-- what stands behind a reference, or where there is none nothing
pub unwrap_now : (r : Option (Bor (List ℕ))) (none : Bor (List ℕ)) → (unwrap_or r none).now ≡ unwrap_or (option_map (λ x. x.now) r) none.now
unwrap_now None none = refl
unwrap_now (Some x) none = refl
