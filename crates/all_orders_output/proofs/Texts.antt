-- Laws of texts that are put one after the other: that there is room for each part, and what stands there at last.
use mathlib.Core.Path.{◌≡◌, sym, ap, ◌∙◌}
use mathlib.Core.List.{List, [], ◌∷◌, ◌++◌, append_assoc, append-nil}
use Prim.Native.Nat.{ℕ, zero, suc, ◌+◌, ◌≤◌, ◌<◌}
use native.Mathlib.Nat.{le_of_suc-le-suc}
use native.Mathlib.Numerals.{add-one}
use native.Mathlib.Omega.{arith}
use lib.ListN.{length, get_or, take, length-append}
use Rattle.all_orders_output.specs.Decimal.{decimal}
use Rattle.all_orders_output.specs.Text.{space, spaced}

-- ---- two parts

module _ (t u v w : List ℕ) (room : ℕ) (here : u ≡ t) (both : length (t ++ (v ++ w)) ≤ room) where
  -- room for both is room for the first
  pub first-room : length (u ++ v) ≤ room
  first-room = rw here (omega (arith, both, length-append t (v ++ w), length-append v w, length-append t v))

  -- and for the second after it
  pub second-room : (u' : List ℕ) → u' ≡ u ++ v → length (u' ++ w) ≤ room
  second-room u' e = rw (e, here, append_assoc) both

-- what is put
pub both-put : (t u u' v w : List ℕ) → u ≡ t ++ v → u' ≡ u ++ w → u' ≡ t ++ (v ++ w)
both-put t u u' v w e f = f ∙ ap (λ (l : List ℕ). l ++ w) e ∙ append_assoc t v w

-- ---- the stops of an order

-- one stop more
spaced-more : (o : List ℕ) (p : ℕ) → p < length o → spaced (take (suc p) o) ≡ spaced (take p o) ++ (space ∷ decimal (get_or o p 0))
unfolding spaced
spaced-more [] p h = absurd (omega arith)
spaced-more (s ∷ ss) zero h = ap (λ (l : List ℕ). space ∷ l) (append-nil (decimal s))
spaced-more (s ∷ ss) (suc p) h =
    ap (λ (l : List ℕ). space ∷ decimal s ++ l) (spaced-more ss p (le_of_suc-le-suc h))
    ∙ ap (λ (l : List ℕ). space ∷ l) (sym (append_assoc (decimal s) (spaced (take p ss)) (space ∷ decimal (get_or ss p 0))))

-- a first part is not longer than the whole
spaced-part : (o : List ℕ) (p : ℕ) → length (spaced (take p o)) ≤ length (spaced o)
unfolding spaced
spaced-part [] zero = omega arith
spaced-part [] (suc p) = omega arith
spaced-part (s ∷ ss) zero = omega arith
spaced-part (s ∷ ss) (suc p) = rw (length-append, length-append) (omega (arith, spaced-part ss p))

module _ (t o : List ℕ) (room : ℕ) (whole : length (t ++ spaced o) ≤ room) where
  -- there is room for one more
  pub stops-room : (p : ℕ) → p < length o → length ((t ++ spaced (take p o)) ++ (space ∷ decimal (get_or o p 0))) ≤ room
  stops-room p b = rw (append_assoc, ← spaced-more o p b) (omega (arith, whole, length-append t (spaced o), length-append t (spaced (take (suc p) o)), spaced-part o (suc p)))

module _ (t o : List ℕ) where
  -- none is put at first
  pub stops-none : t ≡ t ++ spaced (take 0 o)
  unfolding spaced
  stops-none = sym (append-nil t)

  -- one more
  pub stops-next : (u u' u'' : List ℕ) (p s : ℕ) → p < length o → u ≡ t ++ spaced (take p o) → u' ≡ u ++ space ∷ [] → s ≡ get_or o p 0 → u'' ≡ u' ++ decimal s
      → u'' ≡ t ++ spaced (take (p + 1) o)
  stops-next u u' u'' p s b e f g h =
      both-put u u' u'' (space ∷ []) (decimal s) f h
      ∙ ap (λ (l : List ℕ). l ++ space ∷ decimal s) e
      ∙ append_assoc t (spaced (take p o)) (space ∷ decimal s)
      ∙ ap (λ (x : ℕ). t ++ (spaced (take p o) ++ (space ∷ decimal x))) g
      ∙ ap (λ (l : List ℕ). t ++ l) (sym (spaced-more o p b))
      ∙ ap (λ (x : ℕ). t ++ spaced (take x o)) (sym (add-one p))
