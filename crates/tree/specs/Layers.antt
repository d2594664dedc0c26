-- Layered graphs over the tree's test (Theorem 7): their walks are allowed orders. Stops may be kept out of places, and a stop costs
-- something in the first place and with each move into a place.
use Rattle.std.specs.Prelude.{Bool, true, false, cond, ℕ, ◌^◌}
use Rattle.walks.specs.Halves.{segment}
use Rattle.walks.specs.Walk.{Graph}
use Rattle.tree.specs.Neighbour.{may_follow}

-- stop i may stand in place p if `fits p i`; in place 0 it costs s i; the move from j to i in place p costs w p j i
unfoldable pub layers : ℕ → (ℕ → ℕ → Bool) → (ℕ → ℕ) → (ℕ → ℕ → ℕ → ℕ) → Graph
layers k fits s w = segment (2 ^ k) (λ p j i. cond (fits p i) (may_follow p j i) false) w 0 (fits 0) s

-- every stop may stand anywhere
abbrev pub anywhere : ℕ → ℕ → Bool
anywhere p i = true

-- the open total
abbrev pub open_graph : ℕ → (ℕ → ℕ → ℕ) → Graph
open_graph k t = layers k anywhere (λ i. 0) (λ p. t)
