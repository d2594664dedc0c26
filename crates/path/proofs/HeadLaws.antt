-- Laws of a path's head: which test decides, and what an accepted head is.
use mathlib.Core.Path.{◌≡◌, refl, ap, ◌∙◌}
use mathlib.Core.Bool.{Bool, true, false, ◌&&◌, and-true, and-false}
use mathlib.Core.List.{List}
use Prim.Native.Nat.{ℕ, ◌+◌, ◌-◌, ◌≤◌, ◌<◌}
use native.Mathlib.Omega.{arith}
use lib.Dec.{leb}
use lib.ListN.{length, take, drop}
use lib.Seq.{drop-drop, take-take}
use borrow.Author.Tests.{le-leb, lt-leb, leb-true}
use Rattle.base.specs.Outcome.{Outcome, gives, refuses, need, and_then, number}
use Rattle.base.proofs.Outcome.{gives-not-refuses}
use Rattle.records.specs.Field.{number_of}
use Rattle.records.specs.Record.{Taken, record_length, take_record}
use Rattle.records.proofs.LengthLaws.{path-length}
use Rattle.records.proofs.RecordLaws.{by-taken, number-good, Whole}
use Rattle.path.specs.Path.{PathHead, path_head, read_head, head_of, head_fields, known_version}
use Rattle.path.specs.Local.{judge_form}
use Rattle.path.proofs.FormLaws.{form-refused}
use Rattle.path.proofs.PlaceLaws.{window}

module _ (bytes : List ℕ) (highest : ℕ) where
  pub head-unknown : known_version highest ≡ false → read_head bytes highest ≡ refuses 4
  unfolding read_head
  head-unknown e = rw e

  pub head-refused : known_version highest ≡ true → (n : ℕ) → take_record 1 (record_length 1 highest 0) bytes ≡ refuses n → read_head bytes highest ≡ refuses n
  unfolding read_head
  head-refused e n r = rw (e, r)

  -- the fields of a head whose record is whole
  pub head-fields : known_version highest ≡ true → number (take_record 1 (record_length 1 highest 0) bytes) ≡ 0 → read_head bytes highest ≡ head_fields highest (number_of (take 2 (drop 4 bytes))) (number_of (take 2 (drop 6 bytes))) (drop 8 bytes)
  unfolding read_head head_of
  head-fields e z =
      rw e
      (ap (λ (t : Outcome Taken). and_then t (head_of highest)) (number-good 1 (record_length 1 highest 0) bytes z)
      ∙ rw (path-length, take-take 2 4 (drop 4 bytes) (omega arith), window 2 2 4 (drop 4 bytes) (omega arith), drop-drop 2 4 bytes))

module _ (highest version k : ℕ) (rest : List ℕ) where
  pub fields-above : highest < version → head_fields highest version k rest ≡ refuses 4
  unfolding head_fields
  fields-above h = rw (lt-leb _ _ h, and-false)

  pub fields-unformed : version ≤ highest → (n : ℕ) → refuses n ≡ judge_form version k → head_fields highest version k rest ≡ refuses n
  unfolding head_fields
  fields-unformed h n e = rw (le-leb _ _ h, and-true) (form-refused version k n (gives (path_head version k rest)) e)

  pub fields-good : known_version version ≡ true → version ≤ highest → k ≤ 10 → head_fields highest version k rest ≡ gives (path_head version k rest)
  unfolding head_fields
  fields-good e h l = rw (e, le-leb _ _ h, le-leb _ _ l)

-- ---- what an accepted head is

-- a head's refusal is never 0, and what follows an accepted head begins at byte 8
pub data Seen (bytes : List ℕ) (highest : ℕ) : Outcome PathHead → Type 0 where
  good-head : (version k : ℕ) → known_version version ≡ true → version ≤ highest → k ≤ 10 → 8 ≤ length bytes → Seen bytes highest (gives (path_head version k (drop 8 bytes)))
  bad-head : (n : ℕ) → (n ≡ 0 → ⊥) → Seen bytes highest (refuses n)

seen-fields : (bytes : List ℕ) (highest version k : ℕ) → 8 ≤ length bytes → Seen bytes highest (head_fields highest version k (drop 8 bytes))
unfolding head_fields
seen-fields bytes highest version k size = by-version (known_version version) refl (leb version highest) refl (leb k 10) refl
  where
    by-version : (a : Bool) → known_version version ≡ a → (b : Bool) → leb version highest ≡ b → (d : Bool) → leb k 10 ≡ d → Seen bytes highest (need (a && b) 4 (need d 5 (gives (path_head version k (drop 8 bytes)))))
    by-version true p true q true r = good-head version k p (leb-true _ _ q) (leb-true _ _ r) size
    by-version true p true q false r = bad-head 5 (λ z. omega arith)
    by-version true p false q d r = bad-head 4 (λ z. omega arith)
    by-version false p b q d r = bad-head 4 (λ z. omega arith)

pub head-seen : (bytes : List ℕ) (highest : ℕ) → Seen bytes highest (read_head bytes highest)
unfolding read_head head_of
head-seen bytes highest = by-highest (known_version highest)
  where
    whole-head : Whole 1 (record_length 1 highest 0) bytes (take (record_length 1 highest 0 - 2) (drop 4 bytes)) (drop (2 + record_length 1 highest 0) bytes) → Seen bytes highest (head_fields highest (number_of (take 2 (take (record_length 1 highest 0 - 2) (drop 4 bytes)))) (number_of (take 2 (drop 2 (take (record_length 1 highest 0 - 2) (drop 4 bytes))))) (drop (2 + record_length 1 highest 0) bytes))
    whole-head w =
        let enough : 2 + record_length 1 highest 0 ≤ length bytes = w.enough in
        let six : record_length 1 highest 0 ≡ 6 = path-length highest in
        let eight : 2 + record_length 1 highest 0 ≡ 8 = omega arith in
        rw eight (seen-fields bytes highest _ _ (omega arith))

    by-highest : (b : Bool) → Seen bytes highest (need b 4 (and_then (take_record 1 (record_length 1 highest 0) bytes) (head_of highest)))
    by-highest true = by-taken 1 (record_length 1 highest 0) bytes (λ t. Seen bytes highest (and_then t (head_of highest))) whole-head (λ n f. bad-head n f)
    by-highest false = bad-head 4 (λ z. omega arith)

-- what the bytes tell that a head was accepted of
pub record Opened (bytes : List ℕ) (highest version k : ℕ) : Type 0 where
  pub known : known_version version ≡ true
  pub below : version ≤ highest
  pub small : k ≤ 10
  pub head : read_head bytes highest ≡ gives (path_head version k (drop 8 bytes))

pub head-opened : (bytes : List ℕ) (highest : ℕ) (h : PathHead) → gives h ≡ read_head bytes highest → Opened bytes highest h.version h.k
head-opened bytes highest h e = by (read_head bytes highest) (head-seen bytes highest) refl e
  where
    by : (o : Outcome PathHead) → Seen bytes highest o → read_head bytes highest ≡ o → gives h ≡ o → Opened bytes highest h.version h.k
    by o (good-head version k known below small long) r g =
        let same : h ≡ path_head version k (drop 8 bytes) = cc in
        rw same (record { known = known; below = below; small = small; head = r })
    by o (bad-head n f) r g = absurd (gives-not-refuses h n g)
