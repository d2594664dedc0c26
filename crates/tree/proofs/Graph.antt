-- The tree's test as the graph's: allowed orders are the walks of the tree's graph.
use mathlib.Core.Path.{◌≡◌, refl}
use mathlib.Core.Bool.{Bool, true, false, cond}
use mathlib.Core.List.{List}
use mathlib.Core.Logic.{◌↔◌}
use Prim.Native.Nat.{ℕ, zero, suc, ◌*◌, ◌-◌, ◌^◌, ◌≤◌, ◌<◌}
use native.Mathlib.Omega.{arith}
use lib.Bits.{bit_xor}
use lib.Dec.{leb, ltb}
use lib.ListN.{length}
use lib.Pow.{pow_pos}
use borrow.Author.Tests.{le-leb, lt-ltb, leb-true, ltb-true}
use Rattle.walks.specs.Places.{Admits}
use Rattle.walks.specs.Halves.{segment}
use Rattle.tree.specs.Neighbour.{reach, may_follow, in_place, Meets}
use Rattle.tree.specs.Graph.{tree_graph}

-- the test by exclusive or, in words
pub may_follow-iff : (p a b : ℕ) → (may_follow p a b ≡ true) ↔ ((reach p ≤ bit_xor a b) × (bit_xor a b < 2 * reach p))
unfolding may_follow
may_follow-iff p a b = (there (leb (reach p) (bit_xor a b)) refl, λ h. rw (le-leb _ _ h.0, lt-ltb _ _ h.1))
  where
    there : (c : Bool) → leb (reach p) (bit_xor a b) ≡ c → cond c (ltb (bit_xor a b) (2 * reach p)) false ≡ true
        → (reach p ≤ bit_xor a b) × (bit_xor a b < 2 * reach p)
    there true e h = (leb-true _ _ e, ltb-true _ _ h)
    there false e h = let z : ◌≡◌ {A = ℕ} 0 1 = cc in absurd (omega arith)

module _ (k : ℕ) (t : ℕ → ℕ → ℕ) (o : List ℕ) (long : length o ≡ 2 ^ k) where
  -- an order that passes Theorem 7's test is a walk
  pub meets-admits : Meets k o → Admits (tree_graph k t) (2 ^ k - 1) (in_place o)
  unfolding tree_graph segment
  meets-admits m = record {
    begins = refl;
    stops = λ p b. m.small p (omega (arith, pow_pos k));
    moves = λ p b. (may_follow-iff (suc p) _ _).1 (step p b);
  }
    where
      step : (p : ℕ) → p < 2 ^ k - 1 → (reach (suc p) ≤ bit_xor (in_place o p) (in_place o (suc p))) × (bit_xor (in_place o p) (in_place o (suc p)) < 2 * reach (suc p))
      step p b = let e : suc p - 1 ≡ p = omega arith in rw e at (m.near (suc p) (omega arith) (omega arith))

  -- and back
  pub admits-meets : Admits (tree_graph k t) (2 ^ k - 1) (in_place o) → Meets k o
  unfolding tree_graph segment
  admits-meets a = record { long = long; small = λ p b. a.stops p (omega arith); near = step }
    where
      step : (p : ℕ) → 1 ≤ p → p < 2 ^ k → (reach p ≤ bit_xor (in_place o (p - 1)) (in_place o p)) × (bit_xor (in_place o (p - 1)) (in_place o p) < 2 * reach p)
      step zero x b = absurd (omega arith)
      step (suc p) x b = let e : suc p - 1 ≡ p = omega arith in rw e ((may_follow-iff (suc p) _ _).0 (a.moves p (omega arith)))
