-- Walks through places, one stop in each, in a layered graph: which first stops and which moves are allowed, and what
-- they cost, is arbitrary. Places are counted from the first: move n goes from place n to place n + 1.
use Rattle.std.specs.Prelude.{◌≡◌, Bool, true, List, [], ◌∷◌, ℕ, ◌+◌, ◌<◌, zero, suc}

-- stops are below `bound`; `may i` and `start i`: the first place may be i, and its cost;
-- `ok n j i` and `weight n j i`: move n may go from j to i, and its cost
pub record Graph : Type 0 where
  pub bound : ℕ
  pub may : ℕ → Bool
  pub start : ℕ → ℕ
  pub ok : ℕ → ℕ → ℕ → Bool
  pub weight : ℕ → ℕ → ℕ → ℕ

-- Walk G n i c l: an allowed walk of n moves ends in stop i, costs c, and its stops before i are l, the last first
pub data Walk (G : Graph) : ℕ → ℕ → ℕ → List ℕ → Type 0 where
  begin : {i : ℕ} → G.may i ≡ true → Walk G zero i (G.start i) []
  move : {n j c i : ℕ} {l : List ℕ} → Walk G n j c l → j < G.bound → G.ok n j i ≡ true
      → Walk G (suc n) i (c + G.weight n j i) (j ∷ l)

-- the cost of a walk, from its stops alone
unfoldable pub cost : Graph → ℕ → ℕ → List ℕ → ℕ
cost G n i [] = G.start i
cost G zero i (j ∷ l) = 0
cost G (suc n) i (j ∷ l) = cost G n j l + G.weight n j i
