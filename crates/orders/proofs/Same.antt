-- The test that two lists are the same says so.
use mathlib.Core.Path.{◌≡◌, refl, sym, ap, ap₂, subst}
use mathlib.Core.Bool.{Bool, true, false, false≢true}
use mathlib.Core.List.{List, [], ◌∷◌}
use Prim.Native.Nat.{ℕ, ◌+◌, ◌≤◌, ◌<◌}
use native.Mathlib.Omega.{arith}
use lib.Dec.{eqb}
use lib.ListN.{get_or}
use Rattle.std.specs.Cmp.Lexicographic.{pointwise}
use borrow.Author.Tests.{eqb-true, eqb-false, eq-eqb}
use Rattle.base.proofs.Bools.{both}
use Rattle.orders.specs.Same.{alike}

-- two numbers are equal or not
pub equal : (a b : ℕ) → Dec (a ≡ b)
equal a b = go (eqb a b) refl
  where
    go : (t : Bool) → eqb a b ≡ t → Dec (a ≡ b)
    go true e = yes (eqb-true a b e)
    go false e = no (eqb-false a b e)

-- the lists that pass are the same
pub alike_same : (o u : List ℕ) → alike o u ≡ true → o ≡ u
unfolding alike
alike_same [] [] h = refl
alike_same [] (b ∷ u) h = absurd (false≢true h)
alike_same (a ∷ o) [] h = absurd (false≢true h)
alike_same (a ∷ o) (b ∷ u) h = let e = both (eqb a b) (alike o u) h in ap₂ ◌∷◌ (eqb-true a b e.0) (alike_same o u e.1)

-- a list passes with itself
pub alike_refl : (o : List ℕ) → alike o o ≡ true
unfolding alike
alike_refl [] = refl
alike_refl (a ∷ o) = rw (eq-eqb a a refl) (alike_refl o)

-- the test of slices is the same test
pub alike-slices : (o u : List ℕ) → pointwise eqb o u ≡ alike o u
unfolding alike
alike-slices [] [] = refl
alike-slices [] (b ∷ u) = refl
alike-slices (a ∷ o) [] = refl
alike-slices (a ∷ o) (b ∷ u) = rw (alike-slices o u)

-- lists that are the same pass
pub same_alike : (o u : List ℕ) → o ≡ u → alike o u ≡ true
same_alike o u e = rw e (alike_refl u)

-- what holds of the places from 1 to p - 1, and of p, holds of those to p
pub more : (P : ℕ → Type 0) (p : ℕ) → ((q : ℕ) → 1 ≤ q → q < p → P q) → P p → (q : ℕ) → 1 ≤ q → q < p + 1 → P q
more P p h here q a b = go (equal q p)
  where
    go : Dec (q ≡ p) → P q
    go (yes e) = subst P (sym e) here
    go (no e) = h q a (omega arith)

-- lists that differ at an index do not pass
pub differ-alike : (o u : List ℕ) (i : ℕ) → (get_or o i 0 ≡ get_or u i 0 → ⊥) → alike o u ≡ false
differ-alike o u i h = go (alike o u) refl
  where
    go : (t : Bool) → alike o u ≡ t → alike o u ≡ false
    go true e = absurd (h (ap (λ l. get_or l i 0) (alike_same o u e)))
    go false e = e
