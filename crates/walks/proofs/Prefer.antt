-- The preference is a strict total order on lists of one length; its tests tell the truth; parts that are preferred make a whole that is.
use mathlib.Core.Path.{◌≡◌, refl, sym, ap₂}
use mathlib.Core.Bool.{Bool, true, false, cond}
use mathlib.Core.List.{List, [], ◌∷◌, ◌++◌}
use mathlib.Core.Logic.{◌⊎◌, inl, inr, ⊎_elim}
use Prim.Native.Nat.{ℕ, ◌+◌, ◌≤◌, ◌<◌}
use borrow.Author.Tests.{ltb-true, ltb-false, eqb-true, eqb-false}
use lib.Dec.{ltb, eqb}
use lib.ListN.{length}
use native.Mathlib.Decide.{dec_lt}
use native.Mathlib.Omega.{arith}
use Rattle.walks.specs.Prefer.{Lex, here, there, lexb, Before, cheaper, smaller, beforeb, AtMost, less, same, Compared, former, even, latter}

-- two numbers are below, equal or above
pub data Trich (a b : ℕ) : Type 0 where
  below : a < b → Trich a b
  equal : a ≡ b → Trich a b
  above : b < a → Trich a b

-- which of the three
pub trich : (a b : ℕ) → Trich a b
trich a b = go (dec_lt a b) (dec_lt b a)
  where
    go : Dec (a < b) → Dec (b < a) → Trich a b
    go (yes h) k = below h
    go (no h) (yes k) = above k
    go (no h) (no k) = equal (omega arith)

-- equal lists do not come one before the other
pub lex-differ : {l m : List ℕ} → Lex l m → l ≡ m → ⊥
lex-differ (here {a = a} {b = b} p) e = let k : a ≡ b = cc in omega arith
lex-differ (there {l = l} {m = m} h) e = lex-differ h (cc)

-- no list comes before itself
pub lex_irrefl : (l : List ℕ) → Lex l l → ⊥
lex_irrefl l h = lex-differ h refl

-- what is before l is before all that l is before
pub lex-trans : {l m r : List ℕ} → Lex l m → Lex m r → Lex l r
lex-trans (here {a = a} p) (here {b = c} q) = let k : a < c = omega arith in here k
lex-trans (here p) (there k) = here p
lex-trans (there h) (here q) = here q
lex-trans (there h) (there k) = there (lex-trans h k)

-- of two lists of one length one comes before the other, or they are equal
pub lex-total : (l m : List ℕ) → length l ≡ length m → Lex l m ⊎ (l ≡ m) ⊎ Lex m l
lex-total [] [] e = inr (inl refl)
lex-total [] (b ∷ m) e = absurd (omega arith)
lex-total (a ∷ l) [] e = absurd (omega arith)
lex-total (a ∷ l) (b ∷ m) e = go (trich a b) (lex-total l m (omega arith))
  where
    go : Trich a b → Lex l m ⊎ (l ≡ m) ⊎ Lex m l → Lex (a ∷ l) (b ∷ m) ⊎ (a ∷ l ≡ b ∷ m) ⊎ Lex (b ∷ m) (a ∷ l)
    go (below h) k = inl (here h)
    go (above h) k = inr (inr (here h))
    go (equal h) (inl k) = inl (rw h (there k))
    go (equal h) (inr (inl k)) = inr (inl (cc))
    go (equal h) (inr (inr k)) = inr (inr (rw h (there k)))

-- the order holds before any tails
pub lex-tails : {l m : List ℕ} (x y : List ℕ) → Lex l m → Lex (l ++ x) (m ++ y)
lex-tails x y (here p) = here p
lex-tails x y (there h) = there (lex-tails x y h)

-- behind a common front
pub lex-front : (x : List ℕ) {l m : List ℕ} → Lex l m → Lex (x ++ l) (x ++ m)
lex-front [] h = h
lex-front (a ∷ x) h = there (lex-front x h)

-- nothing is before itself
pub before-irrefl : (c : ℕ) (l : List ℕ) → Before c l c l → ⊥
before-irrefl c l (cheaper h) = omega arith
before-irrefl c l (smaller e h) = lex_irrefl l h

-- before one that is before a third
pub before-trans : {c d e : ℕ} {l m r : List ℕ} → Before c l d m → Before d m e r → Before c l e r
before-trans (cheaper h) (cheaper k) = cheaper (omega arith)
before-trans (cheaper h) (smaller f k) = cheaper (omega arith)
before-trans (smaller f h) (cheaper k) = cheaper (omega arith)
before-trans (smaller f h) (smaller g k) = smaller (omega arith) (lex-trans h k)

-- of two lists of one length one is before the other, or they are the same
pub before-total : (c : ℕ) (l : List ℕ) (d : ℕ) (m : List ℕ) → length l ≡ length m → Compared c l d m
before-total c l d m e = go (trich c d) (lex-total l m e)
  where
    go : Trich c d → Lex l m ⊎ (l ≡ m) ⊎ Lex m l → Compared c l d m
    go (below h) k = former (cheaper h)
    go (above h) k = latter (cheaper h)
    go (equal h) (inl k) = former (smaller h k)
    go (equal h) (inr (inl k)) = even h k
    go (equal h) (inr (inr k)) = latter (smaller (sym h) k)

-- each is at most itself
pub at_most-refl : (c : ℕ) (l : List ℕ) → AtMost c l c l
at_most-refl c l = same refl refl

-- at most one that is at most a third
pub at_most-trans : {c d e : ℕ} {l m r : List ℕ} → AtMost c l d m → AtMost d m e r → AtMost c l e r
at_most-trans (less h) (less k) = less (before-trans h k)
at_most-trans (less h) (same f k) = less (rw (← f, ← k) h)
at_most-trans (same f h) k = rw (f, h) k

-- each at most the other: the same cost and the same list. So a least one is the only one
pub at_most-antisym : {c d : ℕ} {l m : List ℕ} → AtMost c l d m → AtMost d m c l → (c ≡ d) × (l ≡ m)
at_most-antisym {c} {d} {l} {m} (less h) (less k) = absurd (before-irrefl c l (before-trans h k))
at_most-antisym (less h) (same f k) = (sym f, sym k)
at_most-antisym (same f h) k = (f, h)

-- what is at most another does not cost more
pub at_most-cost : {c d : ℕ} {l m : List ℕ} → AtMost c l d m → c ≤ d
at_most-cost (less (cheaper h)) = omega arith
at_most-cost (less (smaller e h)) = omega arith
at_most-cost (same e h) = omega arith

-- no more cost and an earlier list
pub at_most-lex : {c d : ℕ} {l m : List ℕ} → c ≤ d → Lex l m → AtMost c l d m
at_most-lex {c} {d} {l} {m} h k = go (trich c d)
  where
    go : Trich c d → AtMost c l d m
    go (below p) = less (cheaper p)
    go (equal p) = less (smaller p k)
    go (above p) = absurd (omega arith)

-- the same stop and the same cost more
pub at_most-step : {c d : ℕ} {l m : List ℕ} (j x : ℕ) → AtMost c l d m → AtMost (c + x) (j ∷ l) (d + x) (j ∷ m)
at_most-step j x (less (cheaper h)) = less (cheaper (omega arith))
at_most-step j x (less (smaller e h)) = less (smaller (omega arith) (there h))
at_most-step j x (same e h) = same (omega arith) (cc)

-- the same lists and the same cost more
pub at_most-raise : {c d : ℕ} {l m : List ℕ} (x : ℕ) → AtMost c l d m → AtMost (c + x) l (d + x) m
at_most-raise x (less (cheaper h)) = less (cheaper (omega arith))
at_most-raise x (less (smaller e h)) = less (smaller (omega arith) h)
at_most-raise x (same e h) = same (omega arith) h

-- two parts, each at most its like, around one stop q
pub at_most-join : {c d c' d' : ℕ} {l m l' m' : List ℕ} (q : ℕ) → AtMost c l d m → AtMost c' l' d' m'
    → AtMost (c + c') (l' ++ q ∷ l) (d + d') (m' ++ q ∷ m)
at_most-join q h (less (cheaper p)) = less (cheaper (omega (arith, at_most-cost h)))
at_most-join {l = l} {m = m} q h (less (smaller e k)) = at_most-lex (omega (arith, at_most-cost h)) (lex-tails (q ∷ l) (q ∷ m) k)
at_most-join q (less (cheaper p)) (same e k) = less (cheaper (omega arith))
at_most-join {m' = m'} q (less (smaller f p)) (same e k) = less (smaller (omega arith) (rw k (lex-front m' (there p))))
at_most-join q (same f p) (same e k) = same (omega arith) (cc)

-- the test tells the truth where it says yes
pub lexb-true : (l m : List ℕ) → lexb l m ≡ true → Lex l m
unfolding lexb
lexb-true [] m e = let z : ◌≡◌ {A = ℕ} 0 1 = cc in absurd (omega arith)
lexb-true (a ∷ l) [] e = let z : ◌≡◌ {A = ℕ} 0 1 = cc in absurd (omega arith)
lexb-true (a ∷ l) (b ∷ m) e = go (ltb a b) (eqb a b) refl refl e (λ x. lexb-true l m x)
  where
    go : (t u : Bool) → ltb a b ≡ t → eqb a b ≡ u → cond t true (cond u (lexb l m) false) ≡ true → (lexb l m ≡ true → Lex l m)
        → Lex (a ∷ l) (b ∷ m)
    go true u p q r k = here (ltb-true a b p)
    go false true p q r k = rw (eqb-true a b q) (there (k r))
    go false false p q r k = let z : ◌≡◌ {A = ℕ} 0 1 = cc in absurd (omega arith)

-- and where it says no, of lists of one length
pub lexb-false : (l m : List ℕ) → length l ≡ length m → lexb l m ≡ false → (m ≡ l) ⊎ Lex m l
unfolding lexb
lexb-false [] [] n e = inl refl
lexb-false [] (b ∷ m) n e = absurd (omega arith)
lexb-false (a ∷ l) [] n e = absurd (omega arith)
lexb-false (a ∷ l) (b ∷ m) n e = go (ltb a b) (eqb a b) refl refl e (λ x. lexb-false l m (omega arith) x)
  where
    go : (t u : Bool) → ltb a b ≡ t → eqb a b ≡ u → cond t true (cond u (lexb l m) false) ≡ false
        → (lexb l m ≡ false → (m ≡ l) ⊎ Lex m l) → (b ∷ m ≡ a ∷ l) ⊎ Lex (b ∷ m) (a ∷ l)
    go true u p q r k = let z : ◌≡◌ {A = ℕ} 0 1 = cc in absurd (omega arith)
    go false true p q r k = ⊎_elim (λ x. inl (ap₂ ◌∷◌ (sym (eqb-true a b q)) x)) (λ x. inr (rw (eqb-true a b q) (there x))) (k r)
    go false false p q r k = let h : b < a = omega (arith, ltb-false a b p, eqb-false a b q) in inr (here h)

-- the test says yes: the first is at most the second
pub beforeb-true : (c : ℕ) (l : List ℕ) (d : ℕ) (m : List ℕ) → beforeb c l d m ≡ true → AtMost c l d m
unfolding beforeb
beforeb-true c l d m e = go (ltb c d) (eqb c d) refl refl e
  where
    go : (t u : Bool) → ltb c d ≡ t → eqb c d ≡ u → cond t true (cond u (lexb l m) false) ≡ true → AtMost c l d m
    go true u p q r = less (cheaper (ltb-true c d p))
    go false true p q r = less (smaller (eqb-true c d q) (lexb-true l m r))
    go false false p q r = let z : ◌≡◌ {A = ℕ} 0 1 = cc in absurd (omega arith)

-- it says no, of lists of one length: the second is at most the first
pub beforeb-false : (c : ℕ) (l : List ℕ) (d : ℕ) (m : List ℕ) → length l ≡ length m → beforeb c l d m ≡ false → AtMost d m c l
unfolding beforeb
beforeb-false c l d m n e = go (ltb c d) (eqb c d) refl refl e
  where
    go : (t u : Bool) → ltb c d ≡ t → eqb c d ≡ u → cond t true (cond u (lexb l m) false) ≡ false → AtMost d m c l
    go true u p q r = let z : ◌≡◌ {A = ℕ} 0 1 = cc in absurd (omega arith)
    go false true p q r =
        ⊎_elim (λ x. same (sym (eqb-true c d q)) x) (λ x. less (smaller (sym (eqb-true c d q)) x)) (lexb-false l m n r)
    go false false p q r = less (cheaper (omega (arith, ltb-false c d p, eqb-false c d q)))
