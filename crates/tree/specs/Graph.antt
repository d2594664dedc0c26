-- The allowed orders of a tree as walks through its places: by Theorem 7 which stop may follow which is decided place by place.
use Rattle.std.specs.Prelude.{true, ℕ, ◌^◌}
use Rattle.walks.specs.Walk.{Graph}
use Rattle.walks.specs.Halves.{segment}
use Rattle.tree.specs.Neighbour.{may_follow}

-- the walks over all places: any stop may be first, at no cost
unfoldable pub tree_graph : ℕ → (ℕ → ℕ → ℕ) → Graph
tree_graph k t = segment (2 ^ k) may_follow (λ p. t) 0 (λ i. true) (λ i. 0)
