-- TWO TABLES COMPARED MOVE BY MOVE. The idea: no stop of an order follows itself, so no total has an entry of the diagonal. What holds of
-- two sums of no move, and carries over one move more off the diagonal, holds of two totals.
use mathlib.Core.Path.{◌≡◌, subst₂}
use mathlib.Core.List.{List}
use mathlib.Core.Logic.{◌≢◌}
use Prim.Native.Nat.{ℕ, zero, suc, ◌+◌, ◌-◌, ◌^◌, ◌≤◌, ◌<◌}
use native.Mathlib.Omega.{arith}
use lib.Bits.{bit_xor, xor_self}
use lib.Pow.{pow_pos}
use Rattle.tree.specs.Neighbour.{trail, reach, in_place, Meets}
use Rattle.tree.specs.Order.{order_of}
use Rattle.tree.specs.Total.{moves, total}
use Rattle.tree.proofs.Theorem7.{forward}
use Rattle.tree.proofs.Open.{moves-total}

-- no stop of an order follows itself
pub neighbours_differ : (k : ℕ) (o : List ℕ) → Meets k o → (p : ℕ) → suc p < 2 ^ k → in_place o p ≢ in_place o (suc p)
unfolding reach
neighbours_differ k o m p b e =
    let h : suc p - 1 ≡ p = omega arith in
    let x : reach (suc p) ≤ bit_xor (in_place o p) (in_place o (suc p)) = rw h at (m.near (suc p) (omega arith) b).0 in
    let y : bit_xor (in_place o p) (in_place o (suc p)) ≡ 0 = rw (← e) (xor_self (in_place o p)) in
    omega (arith, pow_pos (trail (suc p)))

-- R m x y, said of the sums x and y of m moves by t and by u, carries over one move more between two of 2^k stops
abbrev pub Carries : (ℕ → ℕ → ℕ) → (ℕ → ℕ → ℕ) → (ℕ → ℕ → ℕ → Type 0) → ℕ → Type 0
Carries t u R k = (m x y i j : ℕ) → i < 2 ^ k → j < 2 ^ k → i ≢ j → R m x y → R (suc m) (x + t i j) (y + u i j)

module _ (t u : ℕ → ℕ → ℕ) (R : ℕ → ℕ → ℕ → Type 0) (none : R 0 0 0) where
  -- so it holds of the first m moves of an order
  moves-carry : (k : ℕ) → Carries t u R k → (o : List ℕ) → Meets k o → (m : ℕ) → m < 2 ^ k → R m (moves t o m) (moves u o m)
  moves-carry k step o h zero b = none
  moves-carry k step o h (suc m) b =
      step m _ _ (in_place o m) (in_place o (suc m)) (h.small m (omega arith)) (h.small (suc m) b) (neighbours_differ k o h m b)
      (moves-carry k step o h m (omega arith))

  -- and of the open totals
  pub total-carry : (k : ℕ) → Carries t u R k → (F : ℕ) → R (2 ^ k - 1) (total t (order_of k F)) (total u (order_of k F))
  total-carry k step F = subst₂ (R (2 ^ k - 1)) (moves-total k t F) (moves-total k u F)
      (moves-carry k step (order_of k F) (forward k F) (2 ^ k - 1) (omega (arith, pow_pos k)))
