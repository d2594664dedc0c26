-- Lists read from the end: of a list and then another the other comes first; empties may be left out before or after; totals agree.
use mathlib.Core.Path.{◌≡◌, refl, sym, ap, ◌∙◌}
use mathlib.Core.Bool.{Bool, true, false, cond}
use mathlib.Core.List.{List, [], ◌∷◌, ◌++◌, append-nil, append_assoc}
use Prim.Native.Nat.{ℕ, zero, suc, ◌+◌, ◌<◌}
use lib.ListN.{length}
use native.Mathlib.Omega.{arith}
use Rattle.walks.specs.Places.{stops_to}
use Rattle.tree.specs.Neighbour.{in_place}
use Rattle.tree.specs.Total.{moves, total}
use Rattle.tree.specs.Wanted.{backward}
use Rattle.filled.specs.Lists.{keep_filled}

-- the first stop comes last
stops-cons : (a : ℕ) (o : List ℕ) (n : ℕ) → stops_to (in_place (a ∷ o)) (suc n) ≡ stops_to (in_place o) n ++ a ∷ []
unfolding stops_to
stops-cons a o zero = refl
stops-cons a o (suc n) = ap (◌∷◌ (in_place o n)) (stops-cons a o n)

-- of a list
pub backward-cons : (a : ℕ) (o : List ℕ) → backward (a ∷ o) ≡ backward o ++ a ∷ []
backward-cons a o = stops-cons a o (length o)

-- of two lists the second is read first
pub backward-append : (x y : List ℕ) → backward (x ++ y) ≡ backward y ++ backward x
unfolding stops_to
backward-append [] y = sym (append-nil (backward y))
backward-append (a ∷ x) y = backward-cons a (x ++ y) ∙ ap (λ l. l ++ a ∷ []) (backward-append x y)
    ∙ append_assoc (backward y) (backward x) (a ∷ []) ∙ ap (λ l. backward y ++ l) (sym (backward-cons a x))

-- the filled stops of two lists
pub kept_append : (s : ℕ → Bool) (x y : List ℕ) → keep_filled s (x ++ y) ≡ keep_filled s x ++ keep_filled s y
unfolding keep_filled
kept_append s [] y = refl
kept_append s (a ∷ x) y = go (s a) (kept_append s x y)
  where
    go : (b : Bool) → keep_filled s (x ++ y) ≡ keep_filled s x ++ keep_filled s y
        → cond b (a ∷ keep_filled s (x ++ y)) (keep_filled s (x ++ y)) ≡ cond b (a ∷ keep_filled s x) (keep_filled s x) ++ keep_filled s y
    go true e = ap (◌∷◌ a) e
    go false e = e

-- all are filled: nothing is left out
pub kept-all : (s : ℕ → Bool) (o : List ℕ) → ((p : ℕ) → p < length o → s (in_place o p) ≡ true) → keep_filled s o ≡ o
unfolding keep_filled
kept-all s [] h = refl
kept-all s (a ∷ o) h = rw (h 0 (omega arith)) (ap (◌∷◌ a) (kept-all s o (λ p b. h (suc p) (omega arith))))

-- none is filled: all are
pub kept-none : (s : ℕ → Bool) (o : List ℕ) → ((p : ℕ) → p < length o → s (in_place o p) ≡ false) → keep_filled s o ≡ []
unfolding keep_filled
kept-none s [] h = refl
kept-none s (a ∷ o) h = rw (h 0 (omega arith)) (kept-none s o (λ p b. h (suc p) (omega arith)))

-- the moves of a list that is read from its end, after its last stop j: t a b is the time from a to b
unfoldable pub moves_to : (ℕ → ℕ → ℕ) → ℕ → List ℕ → ℕ
moves_to t j [] = 0
moves_to t j (m ∷ l) = moves_to t m l + t m j

-- their sum
unfoldable pub joined : (ℕ → ℕ → ℕ) → List ℕ → ℕ
joined t [] = 0
joined t (j ∷ l) = moves_to t j l

-- is that of the places
joined-moves : (t : ℕ → ℕ → ℕ) (o : List ℕ) (n : ℕ) → joined t (stops_to (in_place o) (suc n)) ≡ moves t o n
unfolding stops_to joined moves_to
joined-moves t o zero = refl
joined-moves t o (suc n) = ap (λ x. x + t (in_place o n) (in_place o (suc n))) (joined-moves t o n)

-- and so the list's total
pub joined-total : (t : ℕ → ℕ → ℕ) (o : List ℕ) → joined t (backward o) ≡ total t o
unfolding stops_to joined
joined-total t [] = refl
joined-total t (a ∷ o) = joined-moves t (a ∷ o) (length o)
