-- Orders as functions from places to stops: which are allowed in a graph, what they cost, and the tie rule in words.
use Rattle.std.specs.Prelude.{◌≡◌, true, List, [], ◌∷◌, ℕ, ◌+◌, ◌≤◌, ◌<◌, zero, suc}
use Rattle.walks.specs.Walk.{Graph}

-- the stops in the places below n, the last first
unfoldable pub stops_to : (ℕ → ℕ) → ℕ → List ℕ
stops_to o zero = []
stops_to o (suc n) = o n ∷ stops_to o n

-- the start and the first n moves
unfoldable pub cost_to : Graph → (ℕ → ℕ) → ℕ → ℕ
cost_to G o zero = G.start (o zero)
cost_to G o (suc n) = cost_to G o n + G.weight n (o n) (o (suc n))

-- o is allowed in the places 0 .. n
pub record Admits (G : Graph) (n : ℕ) (o : ℕ → ℕ) : Type 0 where
  pub begins : G.may (o zero) ≡ true
  pub stops : (p : ℕ) → p ≤ n → o p < G.bound
  pub moves : (p : ℕ) → p < n → G.ok p (o p) (o (suc p)) ≡ true

-- THE TIE RULE, in words: at the last place where o and u differ, below n, o has the smaller stop
pub record Earlier (n : ℕ) (o u : ℕ → ℕ) : Type 0 where
  pub place : ℕ
  pub inside : place < n
  pub smaller-there : o place < u place
  pub alike-after : (r : ℕ) → place < r → r < n → o r ≡ u r

-- o is wanted rather than u, or is the same: it is cheaper, or costs the same and is the earlier read from the last place back
pub data Preferred (G : Graph) (n : ℕ) (o u : ℕ → ℕ) : Type 0 where
  by-cost : cost_to G o n < cost_to G u n → Preferred G n o u
  by-stops : cost_to G o n ≡ cost_to G u n → Earlier (suc n) o u → Preferred G n o u
  alike : ((p : ℕ) → p ≤ n → o p ≡ u p) → Preferred G n o u
