-- The least of a list of costed lists, one after another.
use Rattle.std.specs.Prelude.{cond, List, [], ◌∷◌, ℕ}
use Rattle.walks.specs.Best.{Found, none, at}
use Rattle.walks.specs.Prefer.{beforeb}

-- the least of a list of costed lists
unfoldable pub pick : ℕ → List ℕ → Found (List ℕ) → Found (List ℕ)
pick c l none = at c l
pick c l (at d m) = cond (beforeb c l d m) (at c l) (at d m)

-- the whole list, from its end on
unfoldable pub brute : List (ℕ × List ℕ) → Found (List ℕ)
brute [] = none
brute (p ∷ s) = pick p.0 p.1 (brute s)
