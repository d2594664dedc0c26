-- The preference among costed lists: the smaller cost, and of equal costs the smaller number at the first difference. An order is
-- held here from the last place back, so document 01's 'first difference, read from the last place back' is the first of the list.
use Rattle.std.specs.Prelude.{◌≡◌, Bool, true, false, cond, List, [], ◌∷◌, ℕ, ◌<◌, ltb, eqb}

-- l comes before m: at the first difference l has the smaller number
pub data Lex : List ℕ → List ℕ → Type 0 where
  here : {a b : ℕ} {l m : List ℕ} → a < b → Lex (a ∷ l) (b ∷ m)
  there : {a : ℕ} {l m : List ℕ} → Lex l m → Lex (a ∷ l) (a ∷ m)

-- the order of lists, as a test
unfoldable pub lexb : List ℕ → List ℕ → Bool
lexb [] m = false
lexb (a ∷ l) [] = false
lexb (a ∷ l) (b ∷ m) = let r = lexb l m in cond (ltb a b) true (cond (eqb a b) r false)

-- (c, l) is wanted before (d, m)
pub data Before (c : ℕ) (l : List ℕ) (d : ℕ) (m : List ℕ) : Type 0 where
  cheaper : c < d → Before c l d m
  smaller : c ≡ d → Lex l m → Before c l d m

-- the order of costed lists, as a test
unfoldable pub beforeb : ℕ → List ℕ → ℕ → List ℕ → Bool
beforeb c l d m = cond (ltb c d) true (cond (eqb c d) (lexb l m) false)

-- before, or the same
pub data AtMost (c : ℕ) (l : List ℕ) (d : ℕ) (m : List ℕ) : Type 0 where
  less : Before c l d m → AtMost c l d m
  same : c ≡ d → l ≡ m → AtMost c l d m

-- one is before the other, or they are one and the same
pub data Compared (c : ℕ) (l : List ℕ) (d : ℕ) (m : List ℕ) : Type 0 where
  former : Before c l d m → Compared c l d m
  even : c ≡ d → l ≡ m → Compared c l d m
  latter : Before d m c l → Compared c l d m
