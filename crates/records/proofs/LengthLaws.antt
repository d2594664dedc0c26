-- The lengths of records: the rule holds over the whole table, by one computed test; and the length of each kind as a number.
use mathlib.Core.Path.{◌≡◌, refl, ◌∙◌}
use mathlib.Core.Bool.{Bool, true, false}
use mathlib.Core.List.{List, [], ◌∷◌}
use Prim.Native.Nat.{ℕ, ◌+◌, ◌*◌, ◌/◌, ◌≤◌, ◌<◌}
use native.Mathlib.Omega.{arith}
use lib.Dec.{T, eqb, eqb→eq, leb, leb→le}
use lib.ListN.{length, get_or}
use borrow.Author.Tests.{le-leb, lt-leb, leb-true, leb-false}
use Rattle.records.specs.Record.{record_length, fields, stop_fields, later_fields, oldest_version, part_for, sum, is_kind}
use Rattle.records.proofs.Table.{both, both_left, both_right, every, at}
use Rattle.records.proofs.Versions.{Layout, plain, blended, dwelling, layout, later-few, later-again}

-- the numbers of the constant table: a row for each kind, a column for each version
unfoldable pub lengths : List (List ℕ)
lengths =
    (0 ∷ 0 ∷ 0 ∷ [])
    ∷ (6 ∷ 6 ∷ 6 ∷ [])
    ∷ (16 ∷ 18 ∷ 20 ∷ [])
    ∷ (2 ∷ 2 ∷ 2 ∷ [])
    ∷ (4 ∷ 4 ∷ 4 ∷ [])
    ∷ (10 ∷ 10 ∷ 10 ∷ [])
    ∷ (2 ∷ 2 ∷ 2 ∷ [])
    ∷ (4 ∷ 4 ∷ 4 ∷ [])
    ∷ []

-- three lengths that pass a test of each by its kind and column
row-test : (ℕ → ℕ → ℕ → Bool) → ℕ → List ℕ → Bool
row-test test kind row = both (eqb (length row) 3) (every (test kind) 0 row)

-- a test of all rows tells of each entry
entry : (test : ℕ → ℕ → ℕ → Bool) → T (every (row-test test) 0 lengths) → (kind column : ℕ) → kind < 8 → column < 3 → T (test kind column (get_or (get_or lengths kind []) column 0))
unfolding lengths row-test
entry test all kind column h k =
    let row : List ℕ = get_or lengths kind [] in
    let here : T (row-test test kind row) = at (row-test test) lengths [] all kind h in
    let long : length row ≡ 3 = eqb→eq (length row) 3 (both_left (eqb (length row) 3) (every (test kind) 0 row) here) in
    at (test kind) row 0 (both_right (eqb (length row) 3) (every (test kind) 0 row) here) column (rw long k)

right : (kind column x : ℕ) → Bool
right kind column x = eqb x (record_length kind (oldest_version + column) 0)

-- the rule at each entry
pub lengths-rule : (kind column : ℕ) → kind < 8 → column < 3 → get_or (get_or lengths kind []) column 0 ≡ record_length kind (oldest_version + column) 0
unfolding lengths row-test right record_length fields stop_fields later_fields part_for sum is_kind
lengths-rule kind column h k = eqb→eq (get_or (get_or lengths kind []) column 0) (record_length kind (oldest_version + column) 0) (entry right tt kind column h k)

-- every version has the lengths of the column of its later fields
same-column : (kind version n : ℕ) → record_length kind (oldest_version + later_fields version) n ≡ record_length kind version n
unfolding record_length fields stop_fields
same-column kind version n = rw (later-again version)

-- a number that is no kind has no length
pub length-unknown : (kind version n : ℕ) → is_kind kind ≡ false → record_length kind version n ≡ 0
unfolding record_length
length-unknown kind version n h = rw h

-- and a number above 7 is none
pub above-unknown : (kind : ℕ) → 7 < kind → is_kind kind ≡ false
unfolding is_kind
above-unknown kind h = rw (le-leb 1 kind (omega arith), lt-leb kind 7 h)

pub table-length : (kind version : ℕ) → kind ≤ 7 → get_or (get_or lengths kind []) (later_fields version) 0 ≡ record_length kind version 0
table-length kind version k = lengths-rule kind (later_fields version) (omega arith) (omega (arith, later-few version)) ∙ same-column kind version 0

-- ---- the length of each kind

pub path-length : (version : ℕ) → record_length 1 version 0 ≡ 6
unfolding record_length fields part_for sum is_kind
path-length version = refl

-- each of a stop's later fields has 2 bytes
pub stop-length : (version : ℕ) → record_length 2 version 0 ≡ 16 + 2 * later_fields version
unfolding record_length fields stop_fields later_fields part_for sum is_kind
stop-length version = by (layout version)
  where
    by : Layout version → record_length 2 version 0 ≡ 16 + 2 * later_fields version
    by (plain p q) = rw p
    by (blended p q) = rw (p, q)
    by (dwelling p q) = rw (p, q)

pub end-length : (version : ℕ) → record_length 3 version 0 ≡ 2
unfolding record_length fields part_for sum is_kind
end-length version = refl

pub order-length : (version : ℕ) → record_length 4 version 0 ≡ 4
unfolding record_length fields part_for sum is_kind
order-length version = refl

pub stops-length : (version n : ℕ) → record_length 5 version n ≡ 10 + 2 * n
unfolding record_length fields part_for sum is_kind
stops-length version n = refl

pub forks-length : (version n : ℕ) → record_length 6 version n ≡ 2 + (n + 7) / 8
unfolding record_length fields part_for sum is_kind
forks-length version n = refl

pub refused-length : (version : ℕ) → record_length 7 version 0 ≡ 4
unfolding record_length fields part_for sum is_kind
refused-length version = refl

-- ---- no length is large

-- the longest record without a part for n is a stop's in the newest version
abbrev pub longest_length : ℕ
longest_length = 20

small : (kind column x : ℕ) → Bool
small kind column x = leb x longest_length

entry-small : (kind column : ℕ) → kind < 8 → column < 3 → get_or (get_or lengths kind []) column 0 ≤ longest_length
unfolding lengths row-test small
entry-small kind column h k = leb→le (get_or (get_or lengths kind []) column 0) longest_length (entry small tt kind column h k)

pub length-small : (kind version : ℕ) → record_length kind version 0 ≤ longest_length
length-small kind version = by_kind (leb kind 7) refl
  where
    by_kind : (a : Bool) → leb kind 7 ≡ a → record_length kind version 0 ≤ longest_length
    by_kind false p = rw (length-unknown kind version 0 (above-unknown kind (leb-false _ _ p))) (omega arith)
    by_kind true p =
        rw (← table-length kind version (leb-true _ _ p)) (entry-small kind (later_fields version) (omega (arith, leb-true kind 7 p)) (omega (arith, later-few version)))
