-- The sums of an order, made in two passes: through the places, which are those of the forks, and through the forks from the last on.
use mathlib.Core.Path.{◌≡◌, refl, sym, ◌∙◌}
use mathlib.Core.List.{List}
use Prim.Native.Nat.{ℕ, ◌+◌, ◌-◌, ◌^◌, ◌≤◌, ◌<◌}
use native.Mathlib.Omega.{arith}
use lib.ListN.{length, get_or, set, length-set}
use lib.Pow.{pow_pos}
use lib.Seq.{get_or-set_same, get_or-set_other}
use Rattle.base.specs.Outcome.{over}
use Rattle.tree.specs.Neighbour.{lowest_fork}
use Rattle.orders.specs.Lent.{order_in, JudgedOrder}
use Rattle.orders.proofs.Same.{equal}
use Rattle.group_sums.specs.Travel.{inner_travel, sums_of}
use Rattle.group_sums.specs.Between.{between, move_into, sum_by}
use Rattle.group_sums.proofs.Between.{Between, between-pos, between-lt}
use Rattle.screen.specs.Local.{Placed, Summed}
use Rattle.screen.proofs.Order.{Short, fork-of, between-earlier, by-sides, travel-fits, within-set, within-whole}

module _ (k : ℕ) (order before : List ℕ) (j : JudgedOrder k order) where
  o : List ℕ
  o = order_in k order

  -- ---- the places

  -- place 0 cleared
  pub placed-none : 2 ^ k ≤ length before → Placed k (order_in k order) (set before 0 0) 1 (set before 0 0)
  placed-none long = record {
    within = record {
      long = rw (length-set before 0 0) long;
      same = refl;
      zero = get_or-set_same before 0 0 0 (omega (arith, pow_pos k));
      beyond = refl;
    };
    places = λ v a b l. absurd (omega (arith, between-pos k (order_in k order) j.allowed v a b));
  }

  -- one place more
  pub placed-more : (p v x : ℕ) (s : List ℕ) → 1 ≤ p → p < 2 ^ k → v ≡ lowest_fork k p (get_or order p 0) → x ≡ p → Placed k (order_in k order) before p s
      → Placed k (order_in k order) before (p + 1) (set s v x)
  unfolding o
  placed-more p v x s a b e is w = record { within = within-set (2 ^ k) before s v x f.above f.below w.within; places = λ u c d l. go u c d l (equal u v) }
    where
      f : Between k o p v
      f = fork-of k order j p v a b e

      go : (u : ℕ) → 1 ≤ u → u < 2 ^ k → between k o u < p + 1 → Dec (u ≡ v) → get_or (set s v x) u 0 ≡ between k o u
      go u c d l (yes i) = rw i (get_or-set_same s v x 0 (omega (arith, w.within.long, f.below)) ∙ is ∙ sym f.here)
      go u c d l (no i) = get_or-set_other s v u x 0 i ∙ w.places u c d (between-earlier k order j p v u c d l e (λ q. i (sym q)))

  -- ---- the sums

  module _ (t : ℕ → ℕ → ℕ) where
    -- none yet
    pub summed-none : (s : List ℕ) → Placed k (order_in k order) before (2 ^ k) s → Summed t k (order_in k order) before (2 ^ k) s
    summed-none s w = record {
      within = w.within;
      last = omega arith;
      places = λ u a b l. w.places u a b (between-lt k (order_in k order) j.allowed u a b);
      sums = λ u a b l. absurd (omega arith);
    }

    -- the place between the sides of the next fork
    pub next_place : (v : ℕ) (s : List ℕ) → 1 < v → Summed t k (order_in k order) before v s → get_or s (v - 1) 0 ≡ between k (order_in k order) (v - 1)
    next_place v s a w = w.places (v - 1) (omega arith) (omega (arith, w.last)) (omega arith)

    pub next-lt : (v : ℕ) (s : List ℕ) → 1 < v → Summed t k (order_in k order) before v s → (0 < get_or s (v - 1) 0) × (get_or s (v - 1) 0 < 2 ^ k)
    next-lt v s a w =
        rw (next_place v s a w)
        (between-pos k (order_in k order) j.allowed (v - 1) (omega arith) (omega (arith, w.last)), between-lt k (order_in k order) j.allowed (v - 1) (omega arith) (omega (arith, w.last)))

    -- its sum by the sides
    pub next-sum : (n v y : ℕ) (s : List ℕ) → n ≡ 2 ^ k → 1 < v → Summed t k (order_in k order) before v s → y ≡ move_into t order (get_or s (v - 1) 0)
        → sum_by n s (v - 1) y ≡ inner_travel t k (order_in k order) (v - 1)
    next-sum n v y s count a w m =
        by-sides k order j t s n (v - 1) (get_or s (v - 1) 0) y count (omega arith) (omega (arith, w.last)) (next_place v s a w) (next-lt v s a w).1 m
        (λ u c d. w.sums u (omega arith) d (omega arith))

    pub next_fits : (n v y : ℕ) (s : List ℕ) → Short t → n ≡ 2 ^ k → 1 < v → Summed t k (order_in k order) before v s → y ≡ move_into t order (get_or s (v - 1) 0)
        → sum_by n s (v - 1) y < 2 ^ 64
    next_fits n v y s short count a w m = rw (next-sum n v y s count a w m) (travel-fits k order j t (v - 1) short)

    -- one fork more
    pub summed-more : (n v y x : ℕ) (s : List ℕ) → n ≡ 2 ^ k → 1 < v → Summed t k (order_in k order) before v s → y ≡ move_into t order (get_or s (v - 1) 0)
        → x ≡ sum_by n s (v - 1) y → Summed t k (order_in k order) before (v - 1) (set s (v - 1) x)
    unfolding o
    summed-more n v y x s count a w m e = record {
      within = within-set (2 ^ k) before s (v - 1) x (omega arith) (omega (arith, w.last)) w.within;
      last = omega (arith, w.last);
      places = λ u c d l. get_or-set_other s (v - 1) u x 0 (λ i. absurd (omega arith)) ∙ w.places u c d (omega arith);
      sums = λ u c d l. go u c d l (equal u (v - 1));
    }
      where
        go : (u : ℕ) → 1 ≤ u → u < 2 ^ k → v - 1 ≤ u → Dec (u ≡ v - 1) → get_or (set s (v - 1) x) u 0 ≡ inner_travel t k o u
        go u c d l (yes i) = rw i (get_or-set_same s (v - 1) x 0 (omega (arith, w.within.long, w.last)) ∙ e ∙ next-sum n v y s count a w m)
        go u c d l (no i) = get_or-set_other s (v - 1) u x 0 i ∙ w.sums u c d (omega arith)

    -- all
    pub summed-all : (v : ℕ) (s : List ℕ) → v ≤ 1 → Summed t k (order_in k order) before v s → s ≡ over (sums_of t k (order_in k order)) before
    summed-all v s l w = within-whole t k order before s j w.within (λ u a b. w.sums u a b (omega arith))
