-- 'its diagonal plays no part': tables that differ only there have the same totals and the same wanted order.
use mathlib.Core.Path.{◌≡◌, refl, sym, ap₂}
use mathlib.Core.List.{List}
use mathlib.Core.Logic.{◌≢◌}
use Prim.Native.Nat.{ℕ, ◌+◌, ◌^◌, ◌<◌}
use Rattle.tree.specs.Order.{order_of}
use Rattle.tree.specs.Total.{total}
use Rattle.tree.specs.Wanted.{wanted, Shortest, every}
use Rattle.tree.proofs.Compare.{shortest-alike, wanted-alike}
use Rattle.tree.proofs.Moves.{total-carry}
use Rattle.tree.proofs.Open.{every-settled}

-- t and u agree off the diagonal
module _ (k : ℕ) (t u : ℕ → ℕ → ℕ) (off : (a b : ℕ) → a < 2 ^ k → b < 2 ^ k → a ≢ b → t a b ≡ u a b) where
  -- they give each order the same total
  pub total-same : (F : ℕ) → total t (order_of k F) ≡ total u (order_of k F)
  total-same = total-carry t u (λ m x y. x ≡ y) refl k (λ m x y i j b c d e. ap₂ ◌+◌ e (off i j b c d))

  -- what is shortest by the one is shortest by the other
  pub shortest-same : (o : List ℕ) (c : ℕ) → Shortest k (total t) every o c → Shortest k (total u) every o c
  shortest-same o c s = shortest-alike k every (total t) (total u) (λ F x. sym (total-same F)) s

  -- and the same order is wanted
  pub wanted-same : wanted k (total t) every ≡ wanted k (total u) every
  wanted-same = sym (wanted-alike k every (every-settled k) 0 refl (total t) (total u) (λ F x. sym (total-same F))).0
