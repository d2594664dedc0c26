-- The best walk to each stop, place by place, and the least of a predicate on costed lists.
use Rattle.std.specs.Prelude.{Bool, true, false, cond, List, [], ◌∷◌, ℕ, ◌+◌, ◌<◌, zero, suc, ltb}
use Rattle.walks.specs.Prefer.{AtMost}
use Rattle.walks.specs.Walk.{Graph, Walk}

-- what is known of one stop in one place: no walk ends there, or the least one costs c, and a tells of it
pub data Found (A : Type 0) : Type 0 where
  none : Found A
  at : ℕ → A → Found A

module _ {A : Type 0} where
  -- of two the cheaper; of equals the first
  unfoldable pub keep : Found A → Found A → Found A
  keep none y = y
  keep (at c a) none = at c a
  keep (at c a) (at d b) = cond (ltb d c) (at d b) (at c a)

  -- the best of f 0, f 1, .. f (k - 1)
  unfoldable pub scan : (ℕ → Found A) → ℕ → Found A
  scan f zero = none
  scan f (suc k) = keep (scan f k) (f k)

  -- a first stop, where it is allowed
  unfoldable pub first : Bool → ℕ → A → Found A
  first true c a = at c a
  first false c a = none

-- one move more, where it is allowed, at cost x; g says what it does to what is told
unfoldable pub step : {A B : Type 0} → Bool → ℕ → (A → B) → Found A → Found B
step false x g y = none
step true x g none = none
step true x g (at c a) = at (c + x) (g a)

-- the least walk of n moves that ends in i, with its stops before i, the last first
unfoldable pub best : Graph → ℕ → ℕ → Found (List ℕ)
best G zero i = first (G.may i) (G.start i) []
best G (suc n) i = scan (λ j. step (G.ok n j i) (G.weight n j i) (◌∷◌ j) (best G n j)) G.bound

-- a whole walk of n moves: it costs c, and its stops are l, the last first
pub data Whole (G : Graph) (n : ℕ) : ℕ → List ℕ → Type 0 where
  whole : {i c : ℕ} {l : List ℕ} → i < G.bound → Walk G n i c l → Whole G n c (i ∷ l)

-- the least walk of n moves, with all of its stops
unfoldable pub plan : Graph → ℕ → Found (List ℕ)
plan G n = scan (λ i. step true 0 (◌∷◌ i) (best G n i)) G.bound

-- a cell is least for P: it has P, and is at most all that has P; the cell `none`: nothing has P
abbrev pub Least : (ℕ → List ℕ → Type 0) → Found (List ℕ) → Type 0
Least P none = (c : ℕ) (l : List ℕ) → P c l → ⊥
Least P (at c l) = P c l × ((d : ℕ) (m : List ℕ) → P d m → AtMost c l d m)
