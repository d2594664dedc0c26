-- Whether two lists of numbers are the same.
use Rattle.std.specs.Prelude.{Bool, true, false, ◌&&◌, List, [], ◌∷◌, ℕ, eqb}

unfoldable pub alike : List ℕ → List ℕ → Bool
alike [] [] = true
alike [] (b ∷ u) = false
alike (a ∷ o) [] = false
alike (a ∷ o) (b ∷ u) = eqb a b && alike o u
