-- M-101: WHAT A FORK COSTS THE OTHER WAY, for any cost. The order that is wanted among all is wanted too among those that have the fork as
-- it has it; the one with the fork the other way differs from it, costs no less, and of equal costs stands behind it in the rule for
-- equals. So the reason is one of the two: the other way is dearer, or it is a tie that the last place where they part decides.
use mathlib.Core.Path.{◌≡◌, refl, sym, ap, ◌∙◌}
use mathlib.Core.List.{List}
use mathlib.Core.Logic.{◌≢◌, ◌⊎◌, inl, inr}
use Prim.Native.Nat.{ℕ, ◌*◌, ◌^◌, ◌≤◌, ◌<◌}
use native.Mathlib.Omega.{arith}
use borrow.Author.Tests.{eqb-true, eq-eqb}
use Rattle.walks.specs.Places.{Earlier}
use Rattle.walks.proofs.Prefer.{Trich, trich, below, equal, above}
use Rattle.tree.specs.Neighbour.{in_place}
use Rattle.tree.specs.Order.{order_of}
use Rattle.tree.proofs.Theorem7.{decides}
use Rattle.tree.specs.Wanted.{wanted, Shortest, every}
use Rattle.costs.specs.Costs.{held, InState}
use Rattle.costs.proofs.Held.{held-some, held-settled}
use Rattle.tree.proofs.Open.{every-settled}
use Rattle.tree.proofs.Wanted.{wanted-shortest, shortest-wanted}

module _ (k v : ℕ) (fork : 1 ≤ v) (inside : v < 2 ^ k) where
  -- a fork has one state in an order
  pub state-one : {o : List ℕ} {s r : ℕ} → InState k o v s → InState k o v r → s ≡ r
  state-one a b = sym a.2 ∙ decides k a.0 b.0 (a.1 ∙ sym b.1) v fork inside ∙ b.2

  module _ (cost : List ℕ → ℕ) (s : ℕ) (state : s < 2) where
    -- the wanted order among all, and that with fork v in state s
    w : List ℕ
    w = wanted k cost every

    u : List ℕ
    u = wanted k cost (held v s)

    all : Shortest k cost every w (cost w)
    unfolding w
    all = wanted-shortest k cost every (every-settled k) 0 refl

    its : Shortest k cost (held v s) u (cost u)
    unfolding u
    its = wanted-shortest k cost (held v s) (held-settled k v s fork inside) (s * 2 ^ v) (held-some v s state)

    -- the wanted order with the fork held has it in that state
    pub held-state : InState k (wanted k cost (held v s)) v s
    unfolding u
    held-state = (its.forks, its.given, eqb-true _ _ its.counted)

    -- to hold a fork costs no less
    pub held-dearer : cost (wanted k cost every) ≤ cost (wanted k cost (held v s))
    unfolding w u
    held-dearer = omega (arith, all.least its.forks refl, ap cost its.given)

    -- as it is: the same order
    pub held_same : InState k (wanted k cost every) v s → wanted k cost (held v s) ≡ wanted k cost every
    unfolding w
    held_same a = sym (shortest-wanted k cost (held v s) (held-settled k v s fork inside) (s * 2 ^ v) (held-some v s state) w (cost w) same).0
      where
        same : Shortest k cost (held v s) w (cost w)
        same = record {
          forks = a.0;
          counted = eq-eqb _ _ a.2;
          given = a.1;
          costs = refl;
          least = λ F x. all.least F refl;
          first = λ F x. all.first F refl;
        }

    -- the other way: another order
    pub held-differs : {r : ℕ} → InState k (wanted k cost every) v r → r ≢ s → wanted k cost (held v s) ≢ wanted k cost every
    held-differs a d e = d (state-one a (held-state.0, held-state.1 ∙ e, held-state.2))

    -- THE REASON: dearer, or a tie that is lost at the last place where the two part
    pub held-reason : {r : ℕ} → InState k (wanted k cost every) v r → r ≢ s
        → (cost (wanted k cost every) < cost (wanted k cost (held v s)))
        ⊎ ((cost (wanted k cost (held v s)) ≡ cost (wanted k cost every)) × Earlier (2 ^ k) (in_place (wanted k cost every)) (in_place (wanted k cost (held v s))))
    unfolding w u
    held-reason a d = go (trich (cost w) (cost u))
      where
        go : Trich (cost w) (cost u) → (cost w < cost u) ⊎ ((cost u ≡ cost w) × Earlier (2 ^ k) (in_place w) (in_place u))
        go (below h) = inl h
        go (equal h) =
            let apart : order_of k its.forks ≢ w = λ e. held-differs a d (sym its.given ∙ e) in
            inr (sym h, rw its.given at (all.first its.forks refl (ap cost its.given ∙ sym h) apart))
        go (above h) = absurd (omega (arith, held-dearer))
