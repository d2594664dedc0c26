-- What it means that graphs draw a cost: their walks over all places are the orders of the counted sets, at their costs. There is one
-- graph for each last stop, so that a cost may look at the last stop; most costs have the same graph for all.
use Rattle.std.specs.Prelude.{◌≡◌, Bool, true, List, ◌∷◌, ℕ, ◌-◌, ◌^◌, length}
use Rattle.walks.specs.Best.{Found, scan, step, best}
use Rattle.walks.specs.Places.{Admits, cost_to}
use Rattle.walks.specs.Rows.{costs}
use Rattle.walks.specs.Walk.{Graph}
use Rattle.tree.specs.Neighbour.{in_place}
use Rattle.tree.specs.Order.{order_of}

-- over the last stops e = 0, 1, .. N - 1 the least of the best walks of n moves that end in e, each in its own graph G e; of equals the
-- first. If all G e are one graph this is its plan
unfoldable pub plans : (ℕ → Graph) → ℕ → ℕ → Found (List ℕ)
plans G N n = scan (λ e. step true 0 (◌∷◌ e) (best (G e) n e)) N

-- the same from the costs alone: the least cost, and the last stop that it is found for. This is what a program keeps
unfoldable pub lasts : (ℕ → Graph) → ℕ → ℕ → Found ℕ
lasts G N n = scan (λ e. step true 0 (λ a. e) (costs (G e) n e)) N

-- the last stop of an order
abbrev pub last_of : ℕ → List ℕ → ℕ
last_of k o = in_place o (2 ^ k - 1)

-- the graphs G admit the orders of the counted sets and no other, at their costs
pub record Draws (k : ℕ) (cost : List ℕ → ℕ) (ok : ℕ → Bool) (G : ℕ → Graph) : Type 0 where
  pub bound : (e : ℕ) → (G e).bound ≡ 2 ^ k
  pub admits : (F : ℕ) → ok F ≡ true → Admits (G (last_of k (order_of k F))) (2 ^ k - 1) (in_place (order_of k F))
  pub only : (o : List ℕ) → length o ≡ 2 ^ k → Admits (G (last_of k o)) (2 ^ k - 1) (in_place o) → (F : ℕ) × (ok F ≡ true) × (order_of k F ≡ o)
  pub weighs : (F : ℕ) → ok F ≡ true → cost_to (G (last_of k (order_of k F))) (in_place (order_of k F)) (2 ^ k - 1) ≡ cost (order_of k F)
