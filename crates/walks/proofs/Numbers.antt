-- A program keeps a cost as a number, and any number from `inf` on, above all costs, for 'no walk'. Its loop over the stops before then
-- needs no test for 'no walk': what is added to such a number leaves it one.
use mathlib.Core.Path.{◌≡◌, refl, sym, ◌∙◌, ap, subst, subst₂, fun_ext}
use mathlib.Core.Bool.{Bool, true, false, cond}
use mathlib.Core.List.{List, ◌∷◌}
use Prim.Native.Nat.{ℕ, ◌+◌, ◌≤◌, ◌<◌, zero, suc, ◌-◌, ◌*◌}
use borrow.Author.Tests.{ltb-true, ltb-false}
use lib.Dec.{ltb, leb}
use lib.ListN.{get_or}
use native.Mathlib.Nat.{add-zero, suc-mul}
use native.Mathlib.Omega.{arith}
use Rattle.walks.proofs.Best.{best-walk}
use Rattle.walks.proofs.Rows.{told-told, step-told, costs-are, line-is}
use Rattle.walks.proofs.Walk.{walk-bound}
use Rattle.walks.specs.Best.{Found, none, at, keep, scan, first, step, best}
use Rattle.walks.proofs.Prefer.{Trich, trich, below, equal, above}
use Rattle.walks.specs.Rows.{told, costs, line, last, turn, loop, Codes}
use Rattle.walks.specs.Walk.{Graph}

-- nothing to choose from
keep-none : (y : Found ℕ) → keep y none ≡ y
unfolding keep
keep-none none = refl
keep-none (at c a) = refl

-- one turn does what `keep` does with one step
pub turn-codes : (inf : ℕ) (y z : Found ℕ) (s : ℕ × ℕ) (a : Bool) (v q w : ℕ) → Codes inf s.0 s.1 y
    → (a ≡ true → Codes inf v q z) → (a ≡ true → v < inf → v + w < inf)
    → Codes inf (turn a (v + w) q s).0 (turn a (v + w) q s).1 (keep y (step a w (λ r. r) z))
unfolding turn keep step
turn-codes inf y z s false v q w h k b = rw keep-none h
turn-codes inf none none s true v q w h k b = go (ltb (v + w) s.0)
  where
    go : (t : Bool) → inf ≤ (cond t (v + w, q) s).0
    go false = h
    go true = omega (arith, k refl)
turn-codes inf (at d r) none s true v q w h k b = go (ltb (v + w) s.0) refl
  where
    go : (t : Bool) → ltb (v + w) s.0 ≡ t → Codes inf (cond t (v + w, q) s).0 (cond t (v + w, q) s).1 (at d r)
    go false e = h
    go true e = absurd (omega (arith, ltb-true (v + w) s.0 e, k refl))
turn-codes inf none (at c r) s true v q w h k b = go (ltb (v + w) s.0) refl (k refl)
  where
    go : (t : Bool) → ltb (v + w) s.0 ≡ t → Codes inf v q (at c r)
        → Codes inf (cond t (v + w, q) s).0 (cond t (v + w, q) s).1 (at (c + w) r)
    go true e k = (omega arith, k.1, omega (arith, b refl (omega arith)))
    go false e k = absurd (omega (arith, ltb-false (v + w) s.0 e, b refl (omega arith)))
turn-codes inf (at d t) (at c r) s true v q w h k b = rw (← (k refl).0, ← h.0) (go (ltb (v + w) s.0) (k refl))
  where
    go : (u : Bool) → Codes inf v q (at c r)
        → Codes inf (cond u (v + w, q) s).0 (cond u (v + w, q) s).1 (cond u (at (v + w) r) (at s.0 t))
    go true k = (refl, k.1, b refl (omega arith))
    go false k = (refl, h.1, omega arith)

-- the loop does what the scan does: v and q stand for the row before at every stop that may be left, and no move from a stop with
-- a walk reaches inf
pub loop-codes : (inf : ℕ) (f : ℕ → Found ℕ) (a : ℕ → Bool) (v q w : ℕ → ℕ) (k : ℕ)
    → ((j : ℕ) → j < k → a j ≡ true → Codes inf (v j) (q j) (f j)) → ((j : ℕ) → j < k → a j ≡ true → v j < inf → v j + w j < inf)
    → Codes inf (loop inf a (λ j. v j + w j) q k).0 (loop inf a (λ j. v j + w j) q k).1
    (scan (λ j. step (a j) (w j) (λ r. r) (f j)) k)
unfolding loop scan
loop-codes inf f a v q w zero h b = omega arith
loop-codes inf f a v q w (suc k) h b =
    turn-codes inf (scan (λ j. step (a j) (w j) (λ r. r) (f j)) k) (f k) (loop inf a (λ j. v j + w j) q k) (a k) (v k) (q k) (w k)
    (loop-codes inf f a v q w k (λ j i. h j (omega arith)) (λ j i. b j (omega arith))) (h k (omega arith)) (b k (omega arith))

-- stops that may not be left change nothing
pub loop-skip : (inf : ℕ) (a : ℕ → Bool) (x q : ℕ → ℕ) (m k : ℕ) → m ≤ k → ((j : ℕ) → m ≤ j → j < k → a j ≡ false)
    → loop inf a x q k ≡ loop inf a x q m
unfolding loop turn
loop-skip inf a x q m zero b h = let e : m ≡ 0 = omega arith in rw e
loop-skip inf a x q m (suc k) b h = go (trich m (suc k)) (λ c. loop-skip inf a x q m k c (λ j u v. h j u (omega arith)))
  where
    go : Trich m (suc k) → (m ≤ k → loop inf a x q k ≡ loop inf a x q m) → loop inf a x q (suc k) ≡ loop inf a x q m
    go (below c) ih = rw (h k (omega arith) (omega arith)) (ih (omega arith))
    go (equal c) ih = rw c
    go (above c) ih = absurd (omega arith)

-- the number stands for the cell, whatever else is told beside it
pub codes-told : (inf v q : ℕ) (g : ℕ → ℕ) (y : Found ℕ) → Codes inf v q y → Codes inf v (g q) (told g y)
unfolding told
codes-told inf v q g none h = h
codes-told inf v q g (at c r) h = (h.0, ap g h.1, h.2)

-- the first row: the start cost, or inf
pub first-row : (inf : ℕ) (G : Graph) (m i : ℕ) → G.start i < inf → Codes inf (cond (G.may i) (G.start i) inf) i (line G m zero i)
unfolding line first
first-row inf G m i h = go (G.may i)
  where
    go : (b : Bool) → Codes inf (cond b (G.start i) inf) i (first b (G.start i) i)
    go true = (refl, refl, h)
    go false = omega arith

-- the loop may hold the stop itself, and look up what is told of it afterwards
loop-from : (inf : ℕ) (a : ℕ → Bool) (x q : ℕ → ℕ) (k : ℕ) → ((loop inf a x q k).0 ≡ (loop inf a x (λ j. j) k).0)
    × ((loop inf a x q k).0 < inf → (loop inf a x q k).1 ≡ q (loop inf a x (λ j. j) k).1)
unfolding loop turn
loop-from inf a x q zero = (refl, λ h. absurd (omega arith))
loop-from inf a x q (suc k) = go (a k) (loop inf a x q k) (loop inf a x (λ j. j) k) (loop-from inf a x q k)
  where
    two : (b c : Bool) → b ≡ c → (s r : ℕ × ℕ) → (s.0 ≡ r.0) × (s.0 < inf → s.1 ≡ q r.1)
        → ((cond b (x k, q k) s).0 ≡ (cond c (x k, k) r).0) × ((cond b (x k, q k) s).0 < inf → (cond b (x k, q k) s).1 ≡ q (cond c (x k, k) r).1)
    two true true e s r h = (refl, λ y. refl)
    two false false e s r h = h
    two true false e s r h = let z : ◌≡◌ {A = ℕ} 0 1 = cc in absurd (omega arith)
    two false true e s r h = let z : ◌≡◌ {A = ℕ} 0 1 = cc in absurd (omega arith)

    go : (b : Bool) (s r : ℕ × ℕ) → (s.0 ≡ r.0) × (s.0 < inf → s.1 ≡ q r.1)
        → ((turn b (x k) (q k) s).0 ≡ (turn b (x k) k r).0) × ((turn b (x k) (q k) s).0 < inf → (turn b (x k) (q k) s).1 ≡ q (turn b (x k) k r).1)
    go false s r h = h
    go true s r h = two (ltb (x k) s.0) (ltb (x k) r.0) (ap (ltb (x k)) h.0) s r h

-- what stands for a cell with what is told stands for it with what is looked up
codes-from : (inf : ℕ) (a : ℕ → Bool) (x q : ℕ → ℕ) (k : ℕ) (y : Found ℕ) → Codes inf (loop inf a x q k).0 (loop inf a x q k).1 y
    → Codes inf (loop inf a x (λ j. j) k).0 (q (loop inf a x (λ j. j) k).1) y
codes-from inf a x q k none h = omega (arith, (loop-from inf a x q k).0)
codes-from inf a x q k (at c r) h =
    let f = loop-from inf a x q k in
    (sym f.0 ∙ h.0, sym (f.1 (omega arith)) ∙ h.1, h.2)

-- THE INNER LOOP OF A PROGRAM: v and q stand for the row of place p at every stop that may be left; the loop over those stops holds the
-- cheapest one, and its cost and what is told of it stand for stop i in the row of place p + 1
pub next-codes : (inf : ℕ) (G : Graph) (m p i : ℕ) (v q : ℕ → ℕ)
    → ((j : ℕ) → j < G.bound → G.ok p j i ≡ true → Codes inf (v j) (q j) (line G m p j))
    → ((j : ℕ) → j < G.bound → G.ok p j i ≡ true → v j < inf → v j + G.weight p j i < inf)
    → Codes inf (loop inf (λ j. G.ok p j i) (λ j. v j + G.weight p j i) (λ j. j) G.bound).0
    (cond (leb (suc p) m) i (q (loop inf (λ j. G.ok p j i) (λ j. v j + G.weight p j i) (λ j. j) G.bound).1))
    (line G m (suc p) i)
unfolding line
next-codes inf G m p i v q h b =
    let x : ℕ → ℕ = λ j. v j + G.weight p j i in
    let a : ℕ → Bool = λ j. G.ok p j i in
    let y = scan (λ j. step (G.ok p j i) (G.weight p j i) (λ r. r) (line G m p j)) G.bound in
    codes-told inf (loop inf a x (λ j. j) G.bound).0 (q (loop inf a x (λ j. j) G.bound).1) (λ r. cond (leb (suc p) m) i r) y
    (codes-from inf a x q G.bound y (loop-codes inf (line G m p) a v q (λ j. G.weight p j i) G.bound h b))

-- no sum reaches inf, if no start costs more than a, no move more than b, and inf is above all that these can add up to
pub row_fits : (inf : ℕ) (G : Graph) (m p a b : ℕ) → ((i : ℕ) → G.start i ≤ a) → ((n j i : ℕ) → G.weight n j i ≤ b) → a + suc p * b < inf
    → (j i v q : ℕ) → Codes inf v q (line G m p j) → v < inf → v + G.weight p j i < inf
unfolding told
row_fits inf G m p a b h k t j i v q r f = go (best G p j) refl (rw (line-is G m p j) at r)
  where
    go : (y : Found (List ℕ)) → best G p j ≡ y → Codes inf v q (told (λ l. get_or (j ∷ l) (p - m) 0) y) → v + G.weight p j i < inf
    go none e x = absurd (omega arith)
    go (at c l) e x = omega (arith, walk-bound a b h k (best-walk G p j e), k p j i, rw suc-mul at t)

-- THE LAST CHOICE OF THE PROGRAM: the loop over the last row
pub last-codes : (inf : ℕ) (G : Graph) (m n : ℕ) (v q : ℕ → ℕ) → ((i : ℕ) → i < G.bound → Codes inf (v i) (q i) (line G m n i))
    → Codes inf (loop inf (λ i. true) v (λ i. i) G.bound).0 (loop inf (λ i. true) v (λ i. i) G.bound).1 (last G n)
unfolding last
last-codes inf G m n v q h =
    subst₂ (λ x f. Codes inf (loop inf (λ i. true) x (λ i. i) G.bound).0 (loop inf (λ i. true) x (λ i. i) G.bound).1 (scan f G.bound))
    (fun_ext (λ i. add-zero (v i))) (fun_ext (λ i. step-told (λ r. r) (λ a. i) true 0 (costs G n i)))
    (loop-codes inf (λ i. told (λ a. i) (costs G n i)) (λ i. true) v (λ i. i) (λ i. 0) G.bound (λ i b e. own i b) (λ i b e f. omega arith))
  where
    own : (i : ℕ) → i < G.bound → Codes inf (v i) i (told (λ a. i) (costs G n i))
    own i b =
        let e : told (λ r. i) (line G m n i) ≡ told (λ a. i) (costs G n i) = rw (line-is G m n i, costs-are G n i) (simp told-told) in
        subst (Codes inf (v i) i) e (codes-told inf (v i) (q i) (λ r. i) (line G m n i) (h i b))
