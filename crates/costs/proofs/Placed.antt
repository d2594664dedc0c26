-- M-107: PLACES THAT COST EXTRA. A stop's entry for its place is known when the move into the place is weighed, so it is part of that
-- move's weight, and that of place 0 is the start's.
use mathlib.Core.Path.{◌≡◌, refl, sym, ap, ◌∙◌}
use mathlib.Core.Bool.{true}
use mathlib.Core.List.{List}
use Prim.Native.Nat.{ℕ, zero, suc, ◌+◌, ◌*◌, ◌-◌, ◌^◌, ◌≤◌, ◌<◌}
use native.Mathlib.Nat.{suc-mul}
use native.Mathlib.Omega.{arith}
use lib.ListN.{length}
use lib.Pow.{pow_pos}
use Rattle.walks.specs.Best.{at, plan}
use Rattle.walks.specs.Halves.{segment}
use Rattle.walks.specs.Places.{cost_to}
use Rattle.tree.specs.Neighbour.{in_place, Meets}
use Rattle.tree.specs.Order.{order_of}
use Rattle.tree.specs.Total.{moves, total}
use Rattle.tree.specs.Wanted.{backward}
use Rattle.tree.proofs.Link.{length-order_of}
use Rattle.tree.proofs.Theorem7.{forward}
use Rattle.tree.specs.Wanted.{wanted, every, Shortest}
use Rattle.tree.specs.Draws.{Draws}
use Rattle.costs.specs.Costs.{places_to, placed_total}
use Rattle.tree.specs.Layers.{layers, anywhere}
use Rattle.costs.specs.Graphs.{placed_graph}
use Rattle.tree.proofs.Layers.{layers-draw}
use Rattle.tree.proofs.Draws.{plans-wanted, plans-one}
use Rattle.tree.proofs.Open.{every-settled, wanted-one, moves-total}
use Rattle.tree.proofs.Wanted.{wanted-shortest}
use Rattle.tree.proofs.Compare.{wanted-shift}

-- the cost of a walk: the moves, and the places with place 0
cost_to-placed : (k : ℕ) (t x : ℕ → ℕ → ℕ) (o : List ℕ) (m : ℕ) → cost_to (placed_graph k t x) (in_place o) m ≡ moves t o m + places_to x o (suc m)
unfolding layers segment cost_to
cost_to-placed k t x o zero = omega arith
cost_to-placed k t x o (suc m) = omega (arith, cost_to-placed k t x o m)

-- one and the same entry c for every stop and place
pub places_to-same : (k c : ℕ) (x : ℕ → ℕ → ℕ) → ((i p : ℕ) → i < 2 ^ k → p < 2 ^ k → x i p ≡ c) → (o : List ℕ) → Meets k o
    → (m : ℕ) → m ≤ 2 ^ k → places_to x o m ≡ m * c
places_to-same k c x h o f zero b = omega arith
places_to-same k c x h o f (suc m) b = omega (arith, places_to-same k c x h o f m (omega arith), h (in_place o m) m (f.small m b) b, suc-mul m c)

-- the same amount d more for every stop and place
places_to-more : (k d : ℕ) (x y : ℕ → ℕ → ℕ) → ((i p : ℕ) → i < 2 ^ k → p < 2 ^ k → y i p ≡ x i p + d) → (o : List ℕ) → Meets k o
    → (m : ℕ) → m ≤ 2 ^ k → places_to y o m ≡ places_to x o m + m * d
places_to-more k d x y h o f zero b = omega arith
places_to-more k d x y h o f (suc m) b = omega (arith, places_to-more k d x y h o f m (omega arith), h (in_place o m) m (f.small m b) b, suc-mul m d)

module _ (k : ℕ) (t : ℕ → ℕ → ℕ) where
  module _ (x : ℕ → ℕ → ℕ) where
    -- the graph draws the total with the places
    pub placed-draws : Draws k (placed_total t x) every (λ e. placed_graph k t x)
    placed-draws = layers-draw k (placed_total t x) every anywhere (λ e i. x i 0) (λ p j i. t j i + x i p) (λ F c p b. refl) (λ F f. refl) weighs
      where
        weighs : (F : ℕ) → cost_to (placed_graph k t x) (in_place (order_of k F)) (2 ^ k - 1) ≡ placed_total t x (order_of k F)
        weighs F =
            let n : suc (2 ^ k - 1) ≡ length (order_of k F) = omega (arith, pow_pos k, length-order_of k F) in
            omega (arith, cost_to-placed k t x (order_of k F) (2 ^ k - 1), moves-total k t F, ap (places_to x (order_of k F)) n)

    -- ITS BEST WALK IS THE WANTED ORDER
    pub placed-plan : plan (placed_graph k t x) (2 ^ k - 1) ≡ at (placed_total t x (wanted k (placed_total t x) every)) (backward (wanted k (placed_total t x) every))
    unfolding layers segment
    placed-plan = sym (plans-one (placed_graph k t x) (2 ^ k - 1))
        ∙ plans-wanted k (placed_total t x) every (λ e. placed_graph k t x) placed-draws (every-settled k) 0 refl

    -- demand 3 for this total
    pub placed-shortest : Shortest k (placed_total t x) every (wanted k (placed_total t x) every) (placed_total t x (wanted k (placed_total t x) every))
    placed-shortest = wanted-shortest k (placed_total t x) every (every-settled k) 0 refl

    -- the wanted order has every place
    pub placed-long : length (wanted k (placed_total t x) every) ≡ 2 ^ k
    placed-long = ap length (sym placed-shortest.given) ∙ length-order_of k placed-shortest.forks

  -- one and the same entry c everywhere: the plain order, at n times c more
  pub placed_same : (c : ℕ) (x : ℕ → ℕ → ℕ) → ((i p : ℕ) → i < 2 ^ k → p < 2 ^ k → x i p ≡ c)
      → (wanted k (placed_total t x) every ≡ wanted k (total t) every)
      × (placed_total t x (wanted k (placed_total t x) every) ≡ total t (wanted k (total t) every) + 2 ^ k * c)
  placed_same c x h = wanted-shift k every (every-settled k) 0 refl (total t) (placed_total t x) (2 ^ k * c) more
    where
      more : (F : ℕ) → every F ≡ true → placed_total t x (order_of k F) ≡ total t (order_of k F) + 2 ^ k * c
      more F y = ap (λ z. total t (order_of k F) + z)
          (ap (places_to x (order_of k F)) (length-order_of k F) ∙ places_to-same k c x h (order_of k F) (forward k F) (2 ^ k) (omega arith))

  -- the same entry d more everywhere: the same order, at n times d more
  pub placed-more : (d : ℕ) (x y : ℕ → ℕ → ℕ) → ((i p : ℕ) → i < 2 ^ k → p < 2 ^ k → y i p ≡ x i p + d)
      → (wanted k (placed_total t y) every ≡ wanted k (placed_total t x) every)
      × (placed_total t y (wanted k (placed_total t y) every) ≡ placed_total t x (wanted k (placed_total t x) every) + 2 ^ k * d)
  placed-more d x y h = wanted-shift k every (every-settled k) 0 refl (placed_total t x) (placed_total t y) (2 ^ k * d) more
    where
      more : (F : ℕ) → every F ≡ true → placed_total t y (order_of k F) ≡ placed_total t x (order_of k F) + 2 ^ k * d
      more F z =
          let n = length-order_of k F in
          omega (arith, places_to-more k d x y h (order_of k F) (forward k F) (2 ^ k) (omega arith), ap (places_to y (order_of k F)) n, ap (places_to x (order_of k F)) n)

  -- 'A second table all zero gives the plain result'
  pub placed-zero : (x : ℕ → ℕ → ℕ) → ((i p : ℕ) → i < 2 ^ k → p < 2 ^ k → x i p ≡ 0)
      → (wanted k (placed_total t x) every ≡ wanted k (total t) every)
      × (placed_total t x (wanted k (placed_total t x) every) ≡ total t (wanted k (total t) every))
  placed-zero x h = let r = placed_same 0 x h in (r.0, r.1 ∙ omega arith)

-- 'For n = 1 the total is the single entry'
pub placed_one : (t x : ℕ → ℕ → ℕ) → placed_total t x (wanted 0 (placed_total t x) every) ≡ x 0 0
placed_one t x = rw (wanted-one (placed_total t x)) (omega arith)
