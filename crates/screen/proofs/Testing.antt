-- Whether lent sums are the order's: place by place, which is fork by fork, each is tested by those of its sides.
use mathlib.Core.Path.{◌≡◌, refl, sym, ap, subst, ◌∙◌}
use mathlib.Core.Bool.{Bool, true, false}
use mathlib.Core.List.{List}
use mathlib.Core.Logic.{◌≢◌}
use Prim.Native.Nat.{ℕ, ◌+◌, ◌^◌, ◌≤◌, ◌<◌}
use native.Mathlib.Omega.{arith}
use lib.Dec.{eqb}
use lib.ListN.{length, get_or, take}
use lib.Pow.{pow_pos}
use lib.Seq.{get_or-take}
use borrow.Author.Tests.{eq-eqb, eqb-true}
use Rattle.tree.specs.Neighbour.{lowest_fork}
use Rattle.orders.specs.Lent.{order_in, JudgedOrder}
use Rattle.orders.specs.Same.{alike}
use Rattle.orders.proofs.Same.{equal, alike_same, same_alike, differ-alike}
use Rattle.group_sums.specs.Travel.{sums_of}
use Rattle.group_sums.specs.Between.{between, move_into, sum_by}
use Rattle.group_sums.proofs.Travel.{sums-zero}
use Rattle.group_sums.proofs.Between.{Between, between-pos, between-lt}
use Rattle.group_sums.proofs.Adds.{Adds, sums-add, adds-travel, sums-are, sum_by-take, move_into-take}
use Rattle.screen.specs.Local.{Tested}
use Rattle.screen.proofs.Order.{fork-of, between-earlier}

module _ (t : ℕ → ℕ → ℕ) (k : ℕ) (order sums : List ℕ) (j : JudgedOrder k order) (long : 2 ^ k ≤ length sums) where
  o : List ℕ
  o = order_in k order

  -- no fork yet
  pub tested-none : get_or sums 0 0 ≡ 0 → Tested t k (order_in k order) 1 sums
  tested-none z = record { zero = z; adds = λ v a b l. absurd (omega (arith, between-pos k (order_in k order) j.allowed v a b)) }

  module _ (p n v y : ℕ) (low : 1 ≤ p) (high : p < 2 ^ k) (fork : v ≡ lowest_fork k p (get_or order p 0)) (count : n ≡ 2 ^ k) (move : y ≡ move_into t order p) where
    f : Between k o p v
    unfolding o
    f = fork-of k order j p v low high fork

    -- the sum that the code compares with
    by : sum_by n sums v y ≡ sum_by (2 ^ k) sums v (move_into t o (between k o v))
    unfolding o
    by =
        let q : y ≡ move_into t o (between k o v) = move ∙ sym (move_into-take t (2 ^ k) order p high) ∙ ap (move_into t o) (sym f.here) in
        rw (q, count)

    -- one more
    pub tested-more : eqb (get_or sums v 0) (sum_by n sums v y) ≡ true → Tested t k (order_in k order) p sums → Tested t k (order_in k order) (p + 1) sums
    unfolding o
    tested-more e w = record { zero = w.zero; adds = λ u a b l. go u a b l (equal u v) }
      where
        go : (u : ℕ) → 1 ≤ u → u < 2 ^ k → between k o u < p + 1 → Dec (u ≡ v) → Adds t k o sums u
        go u a b l (yes i) = subst (Adds t k o sums) (sym i) (eqb-true _ _ e ∙ by)
        go u a b l (no i) = w.adds u a b (between-earlier k order j p v u a b l fork (λ q. i (sym q)))

    -- one that does not add up: the sums are not the order's
    pub tested-fails : eqb (get_or sums v 0) (sum_by n sums v y) ≡ false → false ≡ alike (take (2 ^ k) sums) (sums_of t k (order_in k order))
    unfolding o
    tested-fails e = go (alike (take (2 ^ k) sums) (sums_of t k o)) refl
      where
        go : (b : Bool) → alike (take (2 ^ k) sums) (sums_of t k o) ≡ b → false ≡ alike (take (2 ^ k) sums) (sums_of t k o)
        go false h = sym h
        go true h =
            let same : take (2 ^ k) sums ≡ sums_of t k o = alike_same _ _ h in
            let own : Adds t k o (take (2 ^ k) sums) v = subst (λ s. Adds t k o s v) (sym same) (sums-add t k o j.allowed v f.above f.below) in
            let adds : get_or sums v 0 ≡ sum_by n sums v y = sym (get_or-take (2 ^ k) sums v 0 f.below) ∙ own ∙ sum_by-take (2 ^ k) sums v _ ∙ sym by in
            sym e ∙ eq-eqb _ _ adds ∙ sym h

  -- place 0 not 0
  pub tested-not : get_or sums 0 0 ≢ 0 → false ≡ alike (take (2 ^ k) sums) (sums_of t k (order_in k order))
  tested-not h = sym (differ-alike _ _ 0 (λ e. h (sym (get_or-take (2 ^ k) sums 0 0 (pow_pos k)) ∙ e ∙ sums-zero t k (order_in k order))))

  -- all forks
  pub tested-all : (p : ℕ) → 2 ^ k ≤ p → Tested t k (order_in k order) p sums → true ≡ alike (take (2 ^ k) sums) (sums_of t k (order_in k order))
  tested-all p l w =
      let u : List ℕ = order_in k order in
      let each = adds-travel t k u j.allowed sums (λ v a b. w.adds v a b (omega (arith, between-lt k u j.allowed v a b))) in
      sym (same_alike _ _ (sums-are t k u j.allowed sums long w.zero each))
