-- The open total and all sets of forks: the tree's graph draws it, so its best walk is the order that document 01 wants.
use mathlib.Core.Path.{◌≡◌, refl, sym, ap, subst, ◌∙◌}
use mathlib.Core.List.{List, [], ◌∷◌}
use Prim.Native.Nat.{ℕ, pred, ◌-◌, ◌^◌}
use native.Mathlib.Numerals.{sub-one}
use native.Mathlib.Omega.{arith}
use Rattle.walks.specs.Best.{at, plan}
use Rattle.walks.specs.Halves.{segment}
use Rattle.tree.specs.Graph.{tree_graph}
use Rattle.tree.specs.Order.{order_of, Allowed}
use lib.ListN.{length}
use Rattle.tree.specs.Total.{moves, total}
use Rattle.tree.specs.Wanted.{backward}
use Rattle.tree.proofs.Link.{length-order_of}
use Rattle.tree.specs.Wanted.{better, best_of, found, order_in, wanted, Settled, Shortest, every}
use Rattle.tree.specs.Draws.{Draws}
use Rattle.tree.specs.Layers.{anywhere, open_graph}
use Rattle.tree.proofs.Layers.{cost_to-moves, layers-draw, tree_graph-open}
use Rattle.tree.proofs.Draws.{plans-wanted, plans-one}
use Rattle.tree.proofs.Wanted as any

-- that every set counts is settled
pub every-settled : (k : ℕ) → Settled k every
every-settled k F G e = refl

-- one stop alone is its only order, whatever it costs
pub wanted-one : (cost : List ℕ → ℕ) → wanted 0 cost every ≡ 0 ∷ []
unfolding wanted found best_of better order_in
wanted-one cost = refl

-- the moves of an order are one fewer than its stops
pub moves-total : (k : ℕ) (t : ℕ → ℕ → ℕ) (F : ℕ) → moves t (order_of k F) (2 ^ k - 1) ≡ total t (order_of k F)
moves-total k t F = ap (moves t (order_of k F)) (sub-one (2 ^ k) ∙ ap pred (sym (length-order_of k F)))

module _ (k : ℕ) (t : ℕ → ℕ → ℕ) where
  -- the graph draws the open total
  pub open-draws : Draws k (total t) every (λ e. open_graph k t)
  open-draws = layers-draw k (total t) every anywhere (λ e i. 0) (λ p. t) (λ F c p b. refl) (λ F f. refl)
      (λ F. omega (arith, cost_to-moves k anywhere (λ i. 0) t (order_of k F) (2 ^ k - 1), moves-total k t F))

  -- so does the tree's
  pub tree-draws : Draws k (total t) every (λ e. tree_graph k t)
  tree-draws = subst (λ G. Draws k (total t) every (λ e. G)) (sym (tree_graph-open k t)) open-draws

  -- THE BEST WALK OF THE TREE'S GRAPH IS THE WANTED ORDER
  pub open-plan : plan (tree_graph k t) (2 ^ k - 1) ≡ at (total t (wanted k (total t) every)) (backward (wanted k (total t) every))
  unfolding tree_graph segment
  open-plan = sym (plans-one (tree_graph k t) (2 ^ k - 1)) ∙ plans-wanted k (total t) every (λ e. tree_graph k t) tree-draws (every-settled k) 0 refl

  -- the wanted order meets demand 3
  pub wanted-shortest : Shortest k (total t) every (wanted k (total t) every) (total t (wanted k (total t) every))
  wanted-shortest = any.wanted-shortest k (total t) every (every-settled k) 0 refl

  -- and nothing else does
  pub shortest-wanted : (o : List ℕ) (c : ℕ) → Shortest k (total t) every o c → (o ≡ wanted k (total t) every) × (c ≡ total t (wanted k (total t) every))
  shortest-wanted = any.shortest-wanted k (total t) every (every-settled k) 0 refl

  -- it is allowed
  pub wanted-allowed : Allowed k (wanted k (total t) every)
  wanted-allowed = let s = wanted-shortest in (s.forks, s.given)

  -- and has n stops
  pub length-wanted : length (wanted k (total t) every) ≡ 2 ^ k
  length-wanted = any.length-wanted k (total t) every (every-settled k) 0 refl
