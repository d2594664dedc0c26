-- The graphs whose walks have these costs.
use Rattle.std.specs.Prelude.{Bool, true, cond, ℕ, zero, suc, ◌+◌, ◌-◌, ◌%◌, ◌^◌, ◌≤◌, ◌<◌, eqb}
use Rattle.walks.specs.Walk.{Graph}
use Rattle.tree.specs.Fork.{bit, fork_above}
use Rattle.tree.specs.Layers.{layers, anywhere}

-- fork v is at depth h: the forks there are 2^h and more, below 2^(h+1)
abbrev pub AtDepth : ℕ → ℕ → Type 0
AtDepth v h = (2 ^ h ≤ v) × (v < 2 ^ suc h)

-- M-101, fork v at depth h held in state s: a stop i below v may stand in place p exactly if bit k - 1 - h of p is that bit of i, inverted
-- if s is 1; other stops may stand anywhere
unfoldable pub admissible : ℕ → ℕ → ℕ → ℕ → ℕ → ℕ → Bool
admissible k v h s p i = cond (eqb (fork_above k i h) v) (eqb (bit p (k - 1 - h)) ((bit i (k - 1 - h) + s) % 2)) true

-- the open total with that fork held
abbrev pub held_graph : ℕ → (ℕ → ℕ → ℕ) → ℕ → ℕ → ℕ → Graph
held_graph k t v h s = layers k (admissible k v h s) (λ i. 0) (λ p. t)

-- M-107: x i p is the entry of stop i for place p
abbrev pub placed_graph : ℕ → (ℕ → ℕ → ℕ) → (ℕ → ℕ → ℕ) → Graph
placed_graph k t x = layers k anywhere (λ i. x i 0) (λ p j i. t j i + x i p)

-- M-104: the move from the last stop e back to the first stop i; for n = 1 there is none
unfoldable pub home : ℕ → (ℕ → ℕ → ℕ) → ℕ → ℕ → ℕ
home zero t e i = 0
home (suc k) t e i = t e i

-- M-104: the tours whose last stop is e begin with the move that closes them
abbrev pub tour_graph : ℕ → (ℕ → ℕ → ℕ) → ℕ → Graph
tour_graph k t e = layers k anywhere (home k t e) (λ p. t)
