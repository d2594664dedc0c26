-- M-106: 'raising any entries never makes the least total smaller'. To raise entries lowers no order's cost, and a least cost is the
-- cost of some order.
use mathlib.Core.Path.{refl}
use mathlib.Core.List.{List}
use Prim.Native.Nat.{ℕ, zero, suc, ◌*◌, ◌^◌, ◌≤◌, ◌<◌}
use native.Mathlib.Omega.{arith}
use lib.ListN.{length}
use Rattle.tree.specs.Neighbour.{in_place, Meets}
use Rattle.tree.specs.Order.{order_of}
use Rattle.tree.specs.Total.{total}
use Rattle.tree.proofs.Link.{length-order_of}
use Rattle.tree.proofs.Theorem7.{forward}
use Rattle.tree.specs.Wanted.{wanted, Settled, every}
use Rattle.costs.specs.Costs.{held, places_to, placed_total, closed_total, Raised}
use Rattle.tree.proofs.Compare.{wanted-raise}
use Rattle.costs.proofs.Held.{held-some, held-settled}
use Rattle.tree.proofs.Moves.{Carries, total-carry}
use Rattle.tree.proofs.Open.{every-settled}
use Rattle.costs.proofs.Tour.{closed-carry}

-- m moves take no less
abbrev NoLess : ℕ → ℕ → ℕ → Type 0
NoLess m x y = x ≤ y

-- a second table that is nowhere smaller
places_to-raised : (k : ℕ) (x y : ℕ → ℕ → ℕ) → ((i p : ℕ) → i < 2 ^ k → p < 2 ^ k → x i p ≤ y i p) → (o : List ℕ) → Meets k o
    → (m : ℕ) → m ≤ 2 ^ k → places_to x o m ≤ places_to y o m
places_to-raised k x y h o f zero b = omega arith
places_to-raised k x y h o f (suc m) b = omega (arith, places_to-raised k x y h o f m (omega arith), h (in_place o m) m (f.small m b) b)

module _ (t u : ℕ → ℕ → ℕ) where
  -- and so it goes on
  raised-carries : (k : ℕ) → Raised k t u → Carries t u NoLess k
  raised-carries k more m x y i j b c d e = omega (arith, more i j b c d)

  -- every order's open total
  pub total-raised : (k : ℕ) → Raised k t u → (F : ℕ) → total t (order_of k F) ≤ total u (order_of k F)
  total-raised k more = total-carry t u NoLess (omega arith) k (raised-carries k more)

  -- every order's closed total
  pub closed-raised : (k : ℕ) → Raised k t u → (F : ℕ) → closed_total t (order_of k F) ≤ closed_total u (order_of k F)
  closed-raised zero more F = omega arith
  closed-raised (suc k) more F = closed-carry t u NoLess (omega arith) k (raised-carries (suc k) more) F

  module _ (k : ℕ) (more : Raised k t u) where
    -- THE LEAST OPEN TOTAL
    pub open-raised : total t (wanted k (total t) every) ≤ total u (wanted k (total u) every)
    open-raised = wanted-raise k every (every-settled k) 0 refl (total t) (total u) every (every-settled k) 0 refl
        (λ G g. (refl, total-raised k more G))

    -- WITH A FORK HELD
    pub held-raised : (v s : ℕ) → 1 ≤ v → v < 2 ^ k → s < 2 → total t (wanted k (total t) (held v s)) ≤ total u (wanted k (total u) (held v s))
    held-raised v s b c d =
        let fair : Settled k (held v s) = held-settled k v s b c in
        let F : ℕ = s * 2 ^ v in
        wanted-raise k (held v s) fair F (held-some v s d) (total t) (total u) (held v s) fair F (held-some v s d)
        (λ G g. (g, total-raised k more G))

    -- WITH PLACES THAT COST EXTRA, none of them less
    pub placed-raised : (x y : ℕ → ℕ → ℕ) → ((i p : ℕ) → i < 2 ^ k → p < 2 ^ k → x i p ≤ y i p)
        → placed_total t x (wanted k (placed_total t x) every) ≤ placed_total u y (wanted k (placed_total u y) every)
    placed-raised x y h = wanted-raise k every (every-settled k) 0 refl (placed_total t x) (placed_total u y) every (every-settled k) 0 refl
        (λ G g. (refl, both G))
      where
        both : (G : ℕ) → placed_total t x (order_of k G) ≤ placed_total u y (order_of k G)
        both G =
            omega (arith, total-raised k more G, places_to-raised k x y h (order_of k G) (forward k G) (length (order_of k G)) (omega (arith, length-order_of k G)))

    -- TOURS
    pub tour-raised : closed_total t (wanted k (closed_total t) every) ≤ closed_total u (wanted k (closed_total u) every)
    tour-raised = wanted-raise k every (every-settled k) 0 refl (closed_total t) (closed_total u) every (every-settled k) 0 refl
        (λ G g. (refl, closed-raised k more G))
