-- What an order costs, place by place, and which stops may stand where: all that the method knows of costs. Document 01's total is one case:
-- every stop may stand anywhere, the first costs nothing, and a move takes the table's entry.
use Rattle.std.specs.Prelude.{Bool, false, cond, ℕ, zero, suc}
use Rattle.walks.specs.Walk.{Graph}
use Rattle.walks.specs.Halves.{segment}
use Rattle.tree.specs.Neighbour.{may_follow}

-- orders of the stops below `stops`: stop i may stand in place p if `fits p i`; in place 0 it costs `start i`; the move from j to i into place
-- p costs `weight p j i`
pub record Costing : Type 0 where
  pub stops : ℕ
  pub fits : ℕ → ℕ → Bool
  pub start : ℕ → ℕ
  pub weight : ℕ → ℕ → ℕ → ℕ

-- stop i may stand in place p after stop j: it fits the place, and the tree's test holds
abbrev pub allowed : Costing → ℕ → ℕ → ℕ → Bool
allowed C p j i = cond (C.fits p i) (may_follow p j i) false

-- which stops may stand first of the places from `left` on, after the stop `before`; before place 0 there is none
abbrev pub may_start : Costing → ℕ → ℕ → ℕ → Bool
may_start C before zero i = C.fits 0 i
may_start C before (suc l) i = allowed C (suc l) before i

-- and what it costs to stand there
abbrev pub start_cost : Costing → ℕ → ℕ → ℕ → ℕ
start_cost C before zero i = C.start i
start_cost C before (suc l) i = C.weight (suc l) before i

-- the walks through the places from `left` on, begun by the move from the stop before
unfoldable pub block_graph : Costing → ℕ → ℕ → Graph
block_graph C before left = segment C.stops (allowed C) C.weight left (may_start C before left) (start_cost C before left)
