-- M-106: A SLOWER GRIPPER, THE SAME ORDER. An order has n - 1 moves and a tour of two stops or more n, so the same amount added to all
-- entries off the diagonal adds the same to every order, and what is wanted stays wanted. With the amount 0 these laws say that the
-- diagonal plays no part.
use mathlib.Core.Path.{◌≡◌, refl, sym, ◌∙◌}
use mathlib.Core.Bool.{Bool, true}
use Prim.Native.Nat.{ℕ, suc, ◌+◌, ◌*◌, ◌-◌, ◌^◌, ◌≤◌, ◌<◌}
use native.Mathlib.Nat.{suc-mul}
use native.Mathlib.Omega.{arith}
use Rattle.tree.specs.Order.{order_of}
use Rattle.tree.specs.Total.{total}
use Rattle.tree.specs.Wanted.{wanted, Settled, every}
use Rattle.costs.specs.Costs.{held, placed_total, closed_total, Slower}
use Rattle.tree.proofs.Compare.{wanted-shift}
use Rattle.costs.proofs.Held.{held-some, held-settled}
use Rattle.tree.proofs.Moves.{Carries, total-carry}
use Rattle.tree.proofs.Open.{every-settled, wanted-one}
use Rattle.costs.proofs.Tour.{tour-one, closed-carry}

module _ (a : ℕ) (t u : ℕ → ℕ → ℕ) where
  -- m moves take m times the amount more
  abbrev More : ℕ → ℕ → ℕ → Type 0
  More m x y = y ≡ x + m * a

  -- and so it goes on
  slower-carries : (k : ℕ) → Slower k a t u → Carries t u More k
  slower-carries k slow m x y i j b c d e = omega (arith, slow i j b c d, suc-mul m a)

  -- every order's open total
  pub total-slower : (k : ℕ) → Slower k a t u → (F : ℕ) → total u (order_of k F) ≡ total t (order_of k F) + (2 ^ k - 1) * a
  total-slower k slow = total-carry t u More (omega arith) k (slower-carries k slow)

  -- every order's closed total
  pub closed-slower : (k : ℕ) → Slower (suc k) a t u → (F : ℕ) → closed_total u (order_of (suc k) F) ≡ closed_total t (order_of (suc k) F) + 2 ^ suc k * a
  closed-slower k slow = closed-carry t u More (omega arith) k (slower-carries (suc k) slow)

  module _ (k : ℕ) (slow : Slower k a t u) where
    -- THE SAME ORDER, n - 1 TIMES THE AMOUNT MORE, whichever sets count
    pub wanted-slower : (ok : ℕ → Bool) → Settled k ok → (F : ℕ) → ok F ≡ true
        → (wanted k (total u) ok ≡ wanted k (total t) ok) × (total u (wanted k (total u) ok) ≡ total t (wanted k (total t) ok) + (2 ^ k - 1) * a)
    wanted-slower ok fair F c = wanted-shift k ok fair F c (total t) (total u) ((2 ^ k - 1) * a) (λ G g. total-slower k slow G)

    -- the open total
    pub open-slower : (wanted k (total u) every ≡ wanted k (total t) every)
        × (total u (wanted k (total u) every) ≡ total t (wanted k (total t) every) + (2 ^ k - 1) * a)
    open-slower = wanted-slower every (every-settled k) 0 refl

    -- with a fork held
    pub held-slower : (v s : ℕ) → 1 ≤ v → v < 2 ^ k → s < 2 → (wanted k (total u) (held v s) ≡ wanted k (total t) (held v s))
        × (total u (wanted k (total u) (held v s)) ≡ total t (wanted k (total t) (held v s)) + (2 ^ k - 1) * a)
    held-slower v s b c d = wanted-slower (held v s) (held-settled k v s b c) (s * 2 ^ v) (held-some v s d)

    -- with places that cost extra
    pub placed-slower : (x : ℕ → ℕ → ℕ) → (wanted k (placed_total u x) every ≡ wanted k (placed_total t x) every)
        × (placed_total u x (wanted k (placed_total u x) every) ≡ placed_total t x (wanted k (placed_total t x) every) + (2 ^ k - 1) * a)
    placed-slower x = wanted-shift k every (every-settled k) 0 refl (placed_total t x) (placed_total u x) ((2 ^ k - 1) * a)
        (λ G g. omega (arith, total-slower k slow G))

  -- TOURS OF TWO STOPS OR MORE: the same tour, n times the amount more
  pub tour-slower : (k : ℕ) → Slower (suc k) a t u → (wanted (suc k) (closed_total u) every ≡ wanted (suc k) (closed_total t) every)
      × (closed_total u (wanted (suc k) (closed_total u) every) ≡ closed_total t (wanted (suc k) (closed_total t) every) + 2 ^ suc k * a)
  tour-slower k slow = wanted-shift (suc k) every (every-settled (suc k)) 0 refl (closed_total t) (closed_total u) (2 ^ suc k * a)
      (λ G g. closed-slower k slow G)

-- a tour of one stop: nothing more
pub tour-slower-one : (t u : ℕ → ℕ → ℕ) → (wanted 0 (closed_total u) every ≡ wanted 0 (closed_total t) every)
    × (closed_total u (wanted 0 (closed_total u) every) ≡ closed_total t (wanted 0 (closed_total t) every))
tour-slower-one t u = (wanted-one (closed_total u) ∙ sym (wanted-one (closed_total t)), tour-one u ∙ sym (tour-one t))
