-- Laws of rows that are written together, column after column. A column lies in rows that do not meet, so that what is set in one row leaves the
-- others as they are.
use mathlib.Core.Path.{◌≡◌, refl, sym, ap, ◌∙◌}
use mathlib.Core.List.{List, [], ◌∷◌, ◌++◌, append-nil}
use Prim.Native.Nat.{ℕ, zero, suc, ◌+◌, ◌*◌, ◌≤◌, ◌<◌}
use native.Mathlib.Decide.{ℕ_discrete}
use native.Mathlib.Nat.{zero-add, zero-mul, add-zero, suc-add, suc-mul, add-mul, mul-le-mul_right}
use native.Mathlib.Numerals.{add-one}
use native.Mathlib.Omega.{arith}
use lib.ListN.{length, get_or, take, drop, set, length-append, length-drop, length-set, drop_of_length-le}
use lib.Seq.{length-take-le, set-append_left, take-set-lt, drop-set-lt, get_or-set_same, get_or-set_other, ext_get_or}
use Rattle.base.specs.Lists.{tabulate}
use Rattle.base.proofs.Lists.{length-tabulate, get_or-tabulate}
use Rattle.times.specs.Rows.{rows, written, filled}
use Rattle.times.specs.Columns.{set_each, in_column, on_diagonal, written_rows}
use Rattle.times.proofs.Written.{written_none, written_next, filled_next}

-- ---- one row

-- a part that is written over keeps the length
length-written : (t : List ℕ) (s : ℕ) (g : ℕ → ℕ) (m : ℕ) → s + m ≤ length t → length (written t s g m) ≡ length t
unfolding written
length-written t s g m h =
    length-append (take s t) (tabulate m g ++ drop (s + m) t)
    ∙ omega (arith, length-take-le s t (omega arith), length-append (tabulate m g) (drop (s + m) t), length-tabulate m g, length-drop (s + m) t)

-- what is set before it stands before it
set_before : (t : List ℕ) (s : ℕ) (g : ℕ → ℕ) (m j v : ℕ) → j < s → s ≤ length t → set (written t s g m) j v ≡ written (set t j v) s g m
unfolding written
set_before t s g m j v h l =
    let r : List ℕ = tabulate m g ++ drop (s + m) t in
    set-append_left (take s t) r j v (omega (arith, length-take-le s t l))
    ∙ rw (take-set-lt s t j v h, drop-set-lt (s + m) t j v (omega arith))

-- an element of the second of two lists
set-second : (xs ys : List ℕ) (j v : ℕ) → set (xs ++ ys) (length xs + j) v ≡ xs ++ set ys j v
set-second [] ys j v = rw (zero-add j)
set-second (x ∷ xs) ys j v = rw (suc-add (length xs) j) (ap (λ (l : List ℕ). x ∷ l) (set-second xs ys j v))

-- an element of a list by its places
set-tabulate : (m : ℕ) (g g' : ℕ → ℕ) (j v : ℕ) → j < m → g' j ≡ v → ((i : ℕ) → i < m → (i ≡ j → ⊥) → g' i ≡ g i) → set (tabulate m g) j v ≡ tabulate m g'
set-tabulate m g g' j v h e d =
    let long : length (set (tabulate m g) j v) ≡ m = length-set (tabulate m g) j v ∙ length-tabulate m g in
    ext_get_or 0 (set (tabulate m g) j v) (tabulate m g') (long ∙ sym (length-tabulate m g')) (λ i b. at i (rw long at b) (ℕ_discrete i j))
  where
    at : (i : ℕ) → i < m → Dec (i ≡ j) → get_or (set (tabulate m g) j v) i 0 ≡ get_or (tabulate m g') i 0
    at i b (yes q) =
        rw q (get_or-set_same (tabulate m g) j v 0 (rw (length-tabulate m g) h) ∙ sym (get_or-tabulate m g' j 0 h ∙ e))
    at i b (no q) = get_or-set_other (tabulate m g) j i v 0 q ∙ get_or-tabulate m g i 0 b ∙ sym (d i b q) ∙ sym (get_or-tabulate m g' i 0 b)

-- an element of a part that is written over, set anew
written-set : (t : List ℕ) (s : ℕ) (g g' : ℕ → ℕ) (m j v : ℕ) → s + m ≤ length t → j < m → g' j ≡ v → ((i : ℕ) → i < m → (i ≡ j → ⊥) → g' i ≡ g i) → set (written t s g m) (s + j) v ≡ written t s g' m
unfolding written
written-set t s g g' m j v l h e d =
    let x : List ℕ = drop (s + m) t in
    let place : length (take s t) + j ≡ s + j = omega (arith, length-take-le s t (omega arith)) in
    let in_rest : set (take s t ++ (tabulate m g ++ x)) (length (take s t) + j) v ≡ take s t ++ set (tabulate m g ++ x) j v = set-second (take s t) (tabulate m g ++ x) j v in
    (rw place at in_rest)
    ∙ ap (λ (y : List ℕ). take s t ++ y) (set-append_left (tabulate m g) x j v (rw (length-tabulate m g) h))
    ∙ ap (λ (y : List ℕ). take s t ++ (y ++ x)) (set-tabulate m g g' j v h e d)

-- ---- places one after another

-- row r begins where the rows before it end
row-place : (start n r : ℕ) → start + suc r * n ≡ start + r * n + n
row-place start n r = omega (arith, suc-mul r n)

pub each_none : (t : List ℕ) (p v : ℕ → ℕ) → t ≡ set_each t p v 0
unfolding set_each
each_none t p v = refl

pub each_more : (t : List ℕ) (p v : ℕ → ℕ) (r : ℕ) (t' : List ℕ) (x : ℕ) → t' ≡ set_each t p v r → x ≡ v r → set t' (p r) x ≡ set_each t p v (r + 1)
unfolding set_each
each_more t p v r t' x e f = rw (e, f, add-one r)

length-each : (t : List ℕ) (p v : ℕ → ℕ) (r : ℕ) → length (set_each t p v r) ≡ length t
unfolding set_each
length-each t p v zero = refl
length-each t p v (suc r) = length-set (set_each t p v r) (p r) (v r) ∙ length-each t p v r

-- what is set at places before `s` leaves what is written from there on
each-before : (t : List ℕ) (p v : ℕ → ℕ) (r s : ℕ) (g : ℕ → ℕ) (m : ℕ) → ((i : ℕ) → i < r → p i < s) → s ≤ length t → set_each (written t s g m) p v r ≡ written (set_each t p v r) s g m
unfolding set_each
each-before t p v zero s g m h l = refl
each-before t p v (suc r) s g m h l =
    ap (λ (x : List ℕ). set x (p r) (v r)) (each-before t p v r s g m (λ i b. h i (omega arith)) l)
    ∙ set_before (set_each t p v r) s g m (p r) (v r) (h r (omega arith)) (rw (length-each t p v r) l)

-- places in rows before row r
before-row : (start n : ℕ) (j : ℕ → ℕ) (r : ℕ) → ((i : ℕ) → i < r → j i < n) → (i : ℕ) → i < r → start + i * n + j i < start + r * n
before-row start n j r h i b =
    let rows : suc i * n ≤ r * n = mul-le-mul_right n b in
    omega (arith, suc-mul i n, h i b)

-- ---- rows

length-rows-written : (t : List ℕ) (start n : ℕ) (f : ℕ → ℕ → ℕ) (to r : ℕ) → to ≤ n → start + r * n ≤ length t → length (written_rows t start n f to r) ≡ length t
unfolding written_rows
length-rows-written t start n f to zero h l = refl
length-rows-written t start n f to (suc r) h l =
    let before : length (written_rows t start n f to r) ≡ length t = length-rows-written t start n f to r h (omega (arith, row-place start n r)) in
    length-written (written_rows t start n f to r) (start + r * n) (f r) to (omega (arith, before, row-place start n r)) ∙ before

-- what is set in each of r rows, where the value in row i turns its elements from f i and m of them to f' i and m' of them
each_row : (t₀ : List ℕ) (start n : ℕ) (f f' : ℕ → ℕ → ℕ) (m m' : ℕ) (j v : ℕ → ℕ) (r : ℕ) → m ≤ n → m' ≤ n → start + r * n ≤ length t₀ → ((i : ℕ) → i < r → j i < n)
    → ((i : ℕ) → i < r → (t : List ℕ) → start + i * n + n ≤ length t → set (written t (start + i * n) (f i) m) (start + i * n + j i) (v i) ≡ written t (start + i * n) (f' i) m')
    → set_each (written_rows t₀ start n f m r) (λ i. start + i * n + j i) v r ≡ written_rows t₀ start n f' m' r
unfolding set_each written_rows
each_row t₀ start n f f' m m' j v zero h h' l b e = refl
each_row t₀ start n f f' m m' j v (suc r) h h' l b e =
    let below : start + r * n ≤ length t₀ = omega (arith, row-place start n r) in
    let p : ℕ → ℕ = λ i. start + i * n + j i in
    let w : List ℕ = written_rows t₀ start n f m r in
    let w' : List ℕ = written_rows t₀ start n f' m' r in
    let long : length w ≡ length t₀ = length-rows-written t₀ start n f m r h below in
    let long' : length w' ≡ length t₀ = length-rows-written t₀ start n f' m' r h' below in
    let same : set_each (written w (start + r * n) (f r) m) p v r ≡ written w' (start + r * n) (f r) m =
    each-before w p v r (start + r * n) (f r) m (before-row start n j r (λ i c. b i (omega arith))) (rw long below)
    ∙ ap (λ (x : List ℕ). written x (start + r * n) (f r) m) (each_row t₀ start n f f' m m' j v r h h' below (λ i c. b i (omega arith)) (λ i c. e i (omega arith))) in
    ap (λ (x : List ℕ). set x (start + r * n + j r) (v r)) same ∙ e r (omega arith) w' (omega (arith, long', row-place start n r))

-- A COLUMN brings each of the rows one element on
pub column_again : (t₀ : List ℕ) (start n : ℕ) (f : ℕ → ℕ → ℕ) (to : ℕ) (v : ℕ → ℕ) (r : ℕ) (t t' : List ℕ) → to < n → start + r * n ≤ length t₀ → ((i : ℕ) → i < r → v i ≡ f i to)
    → t ≡ written_rows t₀ start n f to r → t' ≡ set_each t (in_column start n to) v r → t' ≡ written_rows t₀ start n f (to + 1) r
column_again t₀ start n f to v r t t' h l e s w =
    w
    ∙ ap (λ (x : List ℕ). set_each x (in_column start n to) v r) s
    ∙ each_row t₀ start n f f to (to + 1) (λ i. to) v r (omega arith) (omega arith) l (λ i b. h) (λ i b t c. written_next t (start + i * n) (f i) to (written t (start + i * n) (f i) to) (v i) (omega arith) refl (e i b))

-- THE DIAGONAL turns whole rows into rows that differ there alone
pub diagonal-rows : (t₀ : List ℕ) (start n from : ℕ) (f f' : ℕ → ℕ → ℕ) (r : ℕ) (t t' : List ℕ) → from + r ≤ n → start + r * n ≤ length t₀
    → ((i : ℕ) → i < r → f' i (from + i) ≡ 0) → ((i j : ℕ) → i < r → j < n → (j ≡ from + i → ⊥) → f' i j ≡ f i j)
    → t ≡ written_rows t₀ start n f n r → t' ≡ set_each t (on_diagonal start n from) (λ i. 0) r → t' ≡ written_rows t₀ start n f' n r
diagonal-rows t₀ start n from f f' r t t' h l e d s w =
    w
    ∙ ap (λ (x : List ℕ). set_each x (on_diagonal start n from) (λ i. 0) r) s
    ∙ each_row t₀ start n f f' n n (λ i. from + i) (λ i. 0) r (omega arith) (omega arith) l (λ i b. omega arith) (λ i b t c. written-set t (start + i * n) (f i) (f' i) n (from + i) 0 c (omega arith) (e i b) (λ j x y. d i j b x y))

-- nothing is written at first
pub rows_none : (t : List ℕ) (start n : ℕ) (f : ℕ → ℕ → ℕ) (r : ℕ) → t ≡ written_rows t start n f 0 r
unfolding written_rows
rows_none t start n f zero = refl
rows_none t start n f (suc r) = rows_none t start n f r ∙ written_none (written_rows t start n f 0 r) (start + r * n) (f r)

-- WHOLE ROWS after the first i rows of a table
pub rows-filled : (t₀ : List ℕ) (n : ℕ) (f : ℕ → ℕ → ℕ) (i : ℕ) (t : List ℕ) (r : ℕ) → t ≡ filled t₀ n f i
    → written_rows t (i * n) n (λ j. f (i + j)) n r ≡ filled t₀ n f (i + r)
unfolding written_rows
rows-filled t₀ n f i t zero e = rw (add-zero i) e
rows-filled t₀ n f i t (suc r) e =
    let place : i * n + r * n ≡ (i + r) * n = sym (add-mul i r n) in
    let count : i + r + 1 ≡ i + suc r = omega arith in
    let next : written (written_rows t (i * n) n (λ j. f (i + j)) n r) ((i + r) * n) (f (i + r)) n ≡ filled t₀ n f (i + r + 1) =
    filled_next t₀ n f (i + r) _ _ (rows-filled t₀ n f i t r e) refl in
    rw place (rw count at next)

-- rows from the list's first place on are written over its front
rows-front : (t : List ℕ) (n : ℕ) (f : ℕ → ℕ → ℕ) (r : ℕ) → written_rows t 0 n f n r ≡ filled t n f r
unfolding written_rows
rows-front t n f zero = rw zero-mul
rows-front t n f (suc r) =
    let next : written (written_rows t 0 n f n r) (r * n) (f r) n ≡ filled t n f (r + 1) = filled_next t n f r _ _ (rows-front t n f r) refl in
    rw (zero-add (r * n)) (rw (add-one r) at next)

-- and are all that it is where there are no more places
pub rows-whole : (t : List ℕ) (n : ℕ) (f : ℕ → ℕ → ℕ) (r : ℕ) → length t ≡ r * n → written_rows t 0 n f n r ≡ rows r (λ j. tabulate n (f j))
rows-whole t n f r l =
    let end : length t ≤ r * n = omega arith in
    rows-front t n f r
    ∙ ap (λ (x : List ℕ). rows r (λ j. tabulate n (f j)) ++ x) (drop_of_length-le t end)
    ∙ append-nil (rows r (λ j. tabulate n (f j)))
