-- A walk's stops are as many as its moves, and its cost follows from its stops.
use mathlib.Core.Path.{◌≡◌, refl, ap}
use mathlib.Core.List.{List, []}
use Prim.Native.Nat.{ℕ, ◌+◌, ◌≤◌, zero, suc, ◌*◌}
use lib.ListN.{length}
use native.Mathlib.Nat.{suc-mul, zero-mul}
use native.Mathlib.Omega.{arith}
use Rattle.walks.specs.Walk.{Graph, Walk, begin, move, cost}

-- a walk of n moves has n stops before its last
pub walk-length : {G : Graph} {n i c : ℕ} {l : List ℕ} → Walk G n i c l → length l ≡ n
walk-length (begin h) = refl
walk-length (move v b o) = ap suc (walk-length v)

-- the cost that a walk bears is that
pub walk-cost : {G : Graph} {n i c : ℕ} {l : List ℕ} → Walk G n i c l → c ≡ cost G n i l
unfolding cost
walk-cost (begin h) = refl
walk-cost {G} (move {n = n} {j = j} {i = i} v b o) = ap (λ x. x + G.weight n j i) (walk-cost v)

-- a walk of no moves has no stop before its last
pub walk_none : {G : Graph} {i c : ℕ} {l : List ℕ} → Walk G zero i c l → l ≡ []
walk_none (begin h) = refl

-- a bound on the cost of a walk: a for the start and b for each move
pub walk-bound : {G : Graph} {n i c : ℕ} {l : List ℕ} (a b : ℕ) → ((i : ℕ) → G.start i ≤ a) → ((n j i : ℕ) → G.weight n j i ≤ b)
    → Walk G n i c l → c ≤ a + n * b
walk-bound a b h k (begin {i = i} o) = rw zero-mul (omega (arith, h i))
walk-bound a b h k (move {n = n} {j = j} {i = i} v q o) = rw suc-mul (omega (arith, walk-bound a b h k v, k n j i))
