-- Rows made one after the other, from the first row of a block of places to its last.
use mathlib.Core.Path.{◌≡◌, refl, sym, ap, subst, ◌∙◌}
use mathlib.Core.Bool.{Bool, true, false}
use mathlib.Core.List.{List}
use Prim.Native.Nat.{ℕ, ◌+◌, ◌*◌, ◌-◌, ◌%◌, ◌^◌, ◌≤◌, ◌<◌}
use native.Mathlib.Omega.{arith}
use Rattle.walks.specs.Best.{Found}
use Rattle.tree.specs.Neighbour.{trail, reach}
use Rattle.rows.specs.Costing.{Costing}
use Rattle.rows.specs.Row.{next, along, first_row, last_row, Row, SomeRow, Kept}
use Rattle.rows.specs.Way.{three_on, RowMade, RowsMade}
use Rattle.rows.specs.Pass.{AlignedBlock, PassLeft, weighings, pass_weighings}
use Rattle.rows.proofs.Blocks.{trail_first}
use Rattle.rows.proofs.Along.{along-add, along-three, along-four, last-two, last-four, weighings-add, weighings-three, weighings-four, weighings-same}
use Rattle.rows.proofs.Lines.{last-holds}
use Rattle.rows.proofs.Stores.{kept-none, kept_more}

-- there is a row after one was made
pub made_row : {p p' off start part off' base size count r : ℕ} {f : (ℕ → Found ℕ) → ℕ → Found ℕ} {B P B' P' : List ℕ} → SomeRow p off start part B P
    → RowMade p p' f off start part off' base size count B P B' P' r → SomeRow p' off' base size B' P'
made_row {f = f} s m = record { row = f s.row; there = m.turned s.row s.there }

-- and after several were
pub made-rows : {n p p' off off' base size count r : ℕ} {f : (ℕ → Found ℕ) → ℕ → Found ℕ} {B P B' P' : List ℕ} → SomeRow p off base size B P
    → RowsMade n p p' f off off' base size count B P B' P' r → SomeRow p' off' base size B' P'
made-rows {f = f} s m = record { row = f s.row; there = m.turned s.row s.there }

-- under another name for the place
pub some_at : {p p' off base size : ℕ} {B P : List ℕ} → p ≡ p' → SomeRow p off base size B P → SomeRow p' off base size B P
some_at e s = rw (← e) s

-- or for the size
pub some_size : {p off base size size' : ℕ} {B P : List ℕ} → size ≡ size' → SomeRow p off base size B P → SomeRow p off base size' B P
some_size e s = rw (← e) s

-- one row
pub rows_of : {n p p' off off' base size count r : ℕ} {f : (ℕ → Found ℕ) → ℕ → Found ℕ} {B P B' P' : List ℕ} → off' + base + size ≤ n + n
    → RowMade p p' f off base size off' base size count B P B' P' r → RowsMade n p p' f off off' base size count B P B' P' r
rows_of h m = record {
  counted = m.counted;
  turned = m.turned;
  totals_kept = kept_more (omega arith) (omega arith) kept-none m.totals_kept;
  pivots_kept = kept_more (omega arith) (omega arith) kept-none m.pivots_kept;
}

-- some after others
pub rows_then : {n p p₁ p₂ off mid off₂ base size a b c d : ℕ} {f g : (ℕ → Found ℕ) → ℕ → Found ℕ} {B P B₁ P₁ B₂ P₂ : List ℕ}
    → RowsMade n p p₁ f off mid base size a B P B₁ P₁ c → RowsMade n p₁ p₂ g mid off₂ base size b B₁ P₁ B₂ P₂ d
    → RowsMade n p p₂ (λ r. g (f r)) off off₂ base size (a + b) B P B₂ P₂ (c + d)
rows_then {f = f} m k = record {
  counted = omega (arith, m.counted, k.counted);
  turned = λ r l. k.turned (f r) (m.turned r l);
  totals_kept = kept_more (omega arith) (omega arith) m.totals_kept k.totals_kept;
  pivots_kept = kept_more (omega arith) (omega arith) m.pivots_kept k.pivots_kept;
}

-- under other names
pub rows_as : {n p p₁ p₂ off off' base size a b r : ℕ} {f g : (ℕ → Found ℕ) → ℕ → Found ℕ} {B P B' P' : List ℕ} → p₁ ≡ p₂ → ((row : ℕ → Found ℕ) → f row ≡ g row) → a ≡ b
    → RowsMade n p p₁ f off off' base size a B P B' P' r → RowsMade n p p₂ g off off' base size b B P B' P' r
rows_as {p₁ = p₁} {p₂} {off' = off'} {base} {size} {f = f} {g} {B' = B'} {P'} e h c m = record {
  counted = m.counted ∙ c;
  turned = λ row l. subst (λ q. Row q (g row) off' base size B' P') e (subst (λ x. Row p₁ x off' base size B' P') (h row) (m.turned row l));
  totals_kept = m.totals_kept;
  pivots_kept = m.pivots_kept;
}

-- A CHUNK: the row of its first place, and the leaves
pub chunk-made : (C : Costing) (early : Bool) {n p t base size c d : ℕ} {B P B₁ P₁ B₂ P₂ : List ℕ} → p % 4 ≡ 0 → t ≡ trail p → base + size ≤ n
    → RowMade p (p + 1) (next C p early) n base size 0 base size (2 ^ t * size) B P B₁ P₁ c
    → RowMade (p + 1) (p + 1 + 3) (three_on C early early (p + 1)) 0 base size n base size (4 * size) B₁ P₁ B₂ P₂ d
    → RowsMade n p (p + 4) (along C early p 4) n n base size (weighings size p 4) B P B₂ P₂ (c + d)
chunk-made C early {n} {p} {t} {base} {size} four e h m k =
    rows_as (omega arith) (λ row. sym (along-four C early row p)) (sym (weighings-four size p t four e)) (rows_then (rows_of (omega arith) m) (rows_of (omega arith) k))

-- CHUNKS on the way: the places from `from` to before p
pub record Chunks (C : Costing) (early : Bool) (n from base size p : ℕ) (B P B' P' : List ℕ) (count : ℕ) : Type 0 where
  pub low : from ≤ p
  pub four : p % 4 ≡ 0
  pub rows : RowsMade n from p (along C early from (p - from)) n n base size (weighings size from (p - from)) B P B' P' count

-- none yet
pub chunks-none : (C : Costing) (early : Bool) {n from base size : ℕ} {B P : List ℕ} → from % 4 ≡ 0 → Chunks C early n from base size from B P B P 0
unfolding along weighings
chunks-none C early {n} {from} {base} {size} {B} {P} h =
    let e : from - from ≡ 0 = omega arith in
    record { low = omega arith; four = h; rows = rw e (record { counted = refl; turned = λ r l. l; totals_kept = kept-none; pivots_kept = kept-none }) }

-- one more
pub chunks-more : (C : Costing) (early : Bool) {n from base size p count d : ℕ} {B P B' P' B'' P'' : List ℕ} → Chunks C early n from base size p B P B' P' count
    → RowsMade n p (p + 4) (along C early p 4) n n base size (weighings size p 4) B' P' B'' P'' d → Chunks C early n from base size (p + 4) B P B'' P'' (count + d)
chunks-more C early {n} {from} {base} {size} {p} m k =
    let e : p + 4 - from ≡ p - from + 4 = omega (arith, m.low) in
    let at : from + (p - from) ≡ p = omega (arith, m.low) in
    let rows : (row : ℕ → Found ℕ) → along C early p 4 (along C early from (p - from) row) ≡ along C early from (p + 4 - from) row
    = λ row. rw e (sym (along-add C early row from (p - from) 4 ∙ ap (λ x. along C early x 4 (along C early from (p - from) row)) at)) in
    let weighed : weighings size from (p - from) + weighings size p 4 ≡ weighings size from (p + 4 - from)
    = rw e (sym (weighings-add size from (p - from) 4 ∙ ap (λ x. weighings size from (p - from) + weighings size x 4) at)) in
    record { low = omega (arith, m.low); four = omega (arith, m.four); rows = rows_as refl rows weighed (rows_then m.rows k) }

-- all of them
pub chunks-all : {C : Costing} {early : Bool} {n from base size p end count : ℕ} {B P B' P' : List ℕ} → p ≡ end → Chunks C early n from base size p B P B' P' count
    → RowsMade n from end (along C early from (end - from)) n n base size (weighings size from (end - from)) B P B' P' count
chunks-all e m = rw (← e) m.rows

-- THE FIRST HALF after its first place: a leaf and chunks
pub half-made : (C : Costing) (left half : ℕ) {n base size c d : ℕ} {B P B₁ P₁ B₂ P₂ : List ℕ} → left % 4 ≡ 0 → 4 ≤ half → base + size ≤ n
    → RowMade (left + 1) (left + 1 + 3) (three_on C true true (left + 1)) 0 base size n base size (4 * size) B P B₁ P₁ c
    → RowsMade n (left + 4) (left + half) (along C true (left + 4) (left + half - (left + 4))) n n base size (weighings size (left + 4) (left + half - (left + 4))) B₁ P₁ B₂ P₂ d
    → RowsMade n (left + 1) (left + half) (along C true (left + 1) (half - 1)) 0 n base size (weighings size (left + 1) (half - 1)) B P B₂ P₂ (c + d)
half-made C left half {n} {base} {size} four large h m k =
    let e : half - 1 ≡ 3 + (left + half - (left + 4)) = omega arith in
    let at : left + 1 + 3 ≡ left + 4 = omega arith in
    let rest : ℕ = left + half - (left + 4) in
    let rows : (row : ℕ → Found ℕ) → along C true (left + 4) rest (three_on C true true (left + 1) row) ≡ along C true (left + 1) (half - 1) row
    = λ row. rw e (sym (along-add C true row (left + 1) 3 rest ∙ ap (λ x. along C true x rest (along C true (left + 1) 3 row)) at
    ∙ ap (along C true (left + 4) rest) (along-three C true row (left + 1)))) in
    let weighed : 4 * size + weighings size (left + 4) rest ≡ weighings size (left + 1) (half - 1)
    = rw e (sym (weighings-add size (left + 1) 3 rest ∙ ap (λ x. weighings size (left + 1) 3 + weighings size x rest) at
    ∙ ap (λ x. x + weighings size (left + 4) rest) (weighings-three size (left + 1) (omega arith)))) in
    rows_as refl rows weighed (rows_then (rows_as at (λ row. refl) refl (rows_of (omega arith) m)) k)

-- THE WHOLE BLOCK of 8 or more places
pub block_made : (C : Costing) {n left m half base c d : ℕ} {B P B₁ P₁ B₂ P₂ : List ℕ} → AlignedBlock n left m → half ≡ 2 ^ (m - 1) → 2 * half ≡ 2 ^ m → 0 < half
    → RowsMade n (left + 1) (left + half) (along C true (left + 1) (half - 1)) 0 n base (2 * half) (weighings (2 * half) (left + 1) (half - 1)) B P B₁ P₁ c
    → RowsMade n (left + half) (left + 2 * half) (along C false (left + half) (left + 2 * half - (left + half))) n n base (2 * half) (weighings (2 * half) (left + half) (left + 2 * half - (left + half))) B₁ P₁ B₂ P₂ d
    → RowsMade n (left + 1) (left + 2 ^ m) (last_row C left (2 ^ (m - 1))) 0 n base (2 ^ m) (pass_weighings m) B P B₂ P₂ (c + d)
unfolding pass_weighings
block_made C {n} {left} {m} {half} {base} {c} {d} {B} {P} {B₂ = B₂} {P₂} a e size pos x y =
    let late : left + 2 * half - (left + half) ≡ half = omega arith in
    let all : 2 ^ m - 1 ≡ half - 1 + half = omega arith in
    let at : left + 1 + (half - 1) ≡ left + half = omega arith in
    let weighed : weighings (2 * half) (left + 1) (half - 1) + weighings (2 * half) (left + half) half ≡ weighings (2 ^ m) 1 (2 ^ m - 1)
    = sym (ap (λ z. weighings z 1 (2 ^ m - 1)) (sym size) ∙ sym (weighings-same (2 * half) (2 ^ m - 1) a (omega arith)) ∙ ap (weighings (2 * half) (left + 1)) all
    ∙ weighings-add (2 * half) (left + 1) (half - 1) half ∙ ap (λ z. weighings (2 * half) (left + 1) (half - 1) + weighings (2 * half) z half) at) in
    let rows : (row : ℕ → Found ℕ) → along C false (left + half) half (along C true (left + 1) (half - 1) row) ≡ last_row C left (2 ^ (m - 1)) row
    = λ row. ap (λ z. last_row C left z row) e in
    let both = rows_as {p₂ = left + 2 ^ m} (omega (arith, size)) rows weighed (rows_then x (rw late at y)) in
    subst (λ z. RowsMade n (left + 1) (left + 2 ^ m) (last_row C left (2 ^ (m - 1))) 0 n base z (weighings (2 ^ m) 1 (2 ^ m - 1)) B P B₂ P₂ (c + d)) size both

-- a block of two places
pub pair-block : (C : Costing) (left : ℕ) {n m base r : ℕ} {B P B' P' : List ℕ} → m ≡ 1 → RowsMade n (left + 1) (left + 1 + 1) (next C (left + 1) false) 0 n base 2 2 B P B' P' r
    → RowsMade n (left + 1) (left + 2 ^ m) (last_row C left (2 ^ (m - 1))) 0 n base (2 ^ m) (pass_weighings m) B P B' P' r
unfolding pass_weighings weighings reach
pair-block C left e k = rw e (rows_as (omega arith) (λ row. sym (last-two C row left)) (rw (trail_first 1 refl) refl) k)

-- and one of four
pub four-block : (C : Costing) (left : ℕ) {n m base r : ℕ} {B P B' P' : List ℕ} → m ≡ 2 → base + 4 ≤ n
    → RowMade (left + 1) (left + 1 + 3) (three_on C true false (left + 1)) 0 base 4 n base 4 16 B P B' P' r
    → RowsMade n (left + 1) (left + 2 ^ m) (last_row C left (2 ^ (m - 1))) 0 n base (2 ^ m) (pass_weighings m) B P B' P' r
unfolding pass_weighings
four-block C left e h k = rw e (rows_as (omega arith) (λ row. sym (last-four C row left)) (sym (weighings-three 4 1 refl)) (rows_of (omega arith) k))

-- THE PASS: the first row, and the others from it
pub pass-left : {C : Costing} {before left base m size r : ℕ} {B P B₁ P₁ B₂ P₂ : List ℕ} → size ≡ 2 ^ m → 0 < m → left + 2 ^ m ≤ 1024 → base + 2 ^ m ≤ C.stops
    → Row (left + 1) (first_row C before left) 0 base size B₁ P₁ → Kept base size B B₁ × Kept base size P P₁
    → RowsMade C.stops (left + 1) (left + 2 ^ m) (last_row C left (2 ^ (m - 1))) 0 C.stops base (2 ^ m) (pass_weighings m) B₁ P₁ B₂ P₂ r → PassLeft C before left base m B P B₂ P₂ r
pass-left {C} {before} {left} {base} {m} e some small inside l k made = record {
  row = last-holds C before left m some small (made.turned _ (rw e at l));
  counted = made.counted;
  totals_kept = kept_more (omega arith) (omega arith) (kept_more (omega arith) (omega arith) kept-none k.0) made.totals_kept;
  pivots_kept = kept_more (omega arith) (omega arith) (kept_more (omega arith) (omega arith) kept-none k.1) made.pivots_kept;
}
