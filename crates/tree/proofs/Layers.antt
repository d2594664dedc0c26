-- Which orders the layered graphs admit: the allowed ones all of whose stops fit their places. So such graphs draw a cost if fitting says
-- which sets count and the walks' costs are the cost.
use mathlib.Core.Path.{◌≡◌, refl}
use mathlib.Core.Bool.{Bool, true, false, cond}
use mathlib.Core.List.{List}
use Prim.Native.Nat.{ℕ, zero, suc, ◌+◌, ◌-◌, ◌^◌, ◌<◌}
use native.Mathlib.Omega.{arith}
use lib.ListN.{length}
use lib.Pow.{pow_pos}
use Rattle.walks.specs.Halves.{segment}
use Rattle.walks.specs.Places.{cost_to, Admits}
use Rattle.tree.specs.Neighbour.{may_follow, in_place, Meets}
use Rattle.tree.specs.Order.{order_of}
use Rattle.tree.specs.Total.{moves}
use Rattle.tree.proofs.Graph.{meets-admits, admits-meets}
use Rattle.tree.specs.Graph.{tree_graph}
use Rattle.tree.proofs.Link.{length-order_of}
use Rattle.tree.proofs.Theorem7.{theorem7, forward}
use Rattle.tree.specs.Draws.{last_of, Draws}
use Rattle.tree.specs.Layers.{layers, open_graph}

-- every stop of an order fits its place
abbrev pub Fit : ℕ → (ℕ → ℕ → Bool) → List ℕ → Type 0
Fit k fits o = (p : ℕ) → p < 2 ^ k → fits p (in_place o p) ≡ true

-- two tests
both : (a b : Bool) → cond a b false ≡ true → (a ≡ true) × (b ≡ true)
both true b h = (refl, h)
both false b h = let z : ◌≡◌ {A = ℕ} 0 1 = cc in absurd (omega arith)

-- the tree's graph is that of the open total
pub tree_graph-open : (k : ℕ) (t : ℕ → ℕ → ℕ) → tree_graph k t ≡ open_graph k t
unfolding tree_graph layers
tree_graph-open k t = refl

module _ (k : ℕ) (fits : ℕ → ℕ → Bool) (s : ℕ → ℕ) (w : ℕ → ℕ → ℕ → ℕ) (o : List ℕ) (long : length o ≡ 2 ^ k) where
  -- an allowed order whose stops fit is admitted
  pub layers-admits : Meets k o → Fit k fits o → Admits (layers k fits s w) (2 ^ k - 1) (in_place o)
  unfolding tree_graph segment layers
  layers-admits m f =
      let a : Admits (tree_graph k (λ x y. 0)) (2 ^ k - 1) (in_place o) = meets-admits k (λ x y. 0) o long m in
      record {
        begins = f 0 (pow_pos k);
        stops = λ p b. a.stops p b;
        moves = λ p b. rw (f (suc p) (omega arith)) (a.moves p b);
      }

  -- and back
  pub admits-layers : Admits (layers k fits s w) (2 ^ k - 1) (in_place o) → Meets k o × Fit k fits o
  unfolding tree_graph segment layers
  admits-layers a = (
    admits-meets k (λ x y. 0) o long (record { begins = refl; stops = λ p b. a.stops p b; moves = λ p b. (step p b).1 }),
    fit,
  )
    where
      step : (p : ℕ) → p < 2 ^ k - 1 → (fits (suc p) (in_place o (suc p)) ≡ true) × (may_follow (suc p) (in_place o p) (in_place o (suc p)) ≡ true)
      step p b = both (fits (suc p) (in_place o (suc p))) (may_follow (suc p) (in_place o p) (in_place o (suc p))) (a.moves p b)

      fit : Fit k fits o
      fit zero b = a.begins
      fit (suc p) b = (step p (omega arith)).0

-- the cost of a walk where moves take the table's entries
pub cost_to-moves : (k : ℕ) (fits : ℕ → ℕ → Bool) (s : ℕ → ℕ) (t : ℕ → ℕ → ℕ) (o : List ℕ) (m : ℕ)
    → cost_to (layers k fits s (λ p. t)) (in_place o) m ≡ moves t o m + s (in_place o 0)
unfolding layers segment cost_to
cost_to-moves k fits s t o zero = omega arith
cost_to-moves k fits s t o (suc m) = omega (arith, cost_to-moves k fits s t o m)

-- LAYERED GRAPHS DRAW A COST
module _ (k : ℕ) (cost : List ℕ → ℕ) (ok : ℕ → Bool) (fits : ℕ → ℕ → Bool) (s : ℕ → ℕ → ℕ) (w : ℕ → ℕ → ℕ → ℕ)
    (fit : (F : ℕ) → ok F ≡ true → Fit k fits (order_of k F)) (back : (F : ℕ) → Fit k fits (order_of k F) → ok F ≡ true)
    (weighs : (F : ℕ) → cost_to (layers k fits (s (last_of k (order_of k F))) w) (in_place (order_of k F)) (2 ^ k - 1) ≡ cost (order_of k F)) where
  pub layers-draw : Draws k cost ok (λ e. layers k fits (s e) w)
  unfolding layers segment
  layers-draw = record {
    bound = λ e. refl;
    admits = λ F t. layers-admits k fits _ w (order_of k F) (length-order_of k F) (forward k F) (fit F t);
    only = only;
    weighs = λ F t. weighs F;
  }
    where
      only : (o : List ℕ) → length o ≡ 2 ^ k → Admits (layers k fits (s (last_of k o)) w) (2 ^ k - 1) (in_place o)
          → (F : ℕ) × (ok F ≡ true) × (order_of k F ≡ o)
      only o e a =
          let m = admits-layers k fits (s (last_of k o)) w o e a in
          let f = (theorem7 k o).1 m.0 in
          (f.0, back f.0 (rw f.1 m.1), f.1)
