-- A judged order in a lent buffer: its stops, its forks and the bounds of its sums.
use mathlib.Core.Path.{◌≡◌, sym, ap, subst, ◌∙◌}
use mathlib.Core.List.{List, ◌++◌}
use Prim.Native.Nat.{ℕ, ◌+◌, ◌^◌, ◌≤◌, ◌<◌}
use native.Mathlib.Omega.{arith}
use lib.ListN.{length, get_or, take, set, length-set, take-append-drop}
use lib.Seq.{get_or-take, length-take-le, get_or-set_other, drop-set-lt}
use Rattle.base.specs.Outcome.{over}
use Rattle.base.specs.Size.{stop_count}
use Rattle.base.proofs.Outcome.{over-at}
use Rattle.base.proofs.Size.{stop_count-pow, pow-le-1024}
use Rattle.tree.specs.Neighbour.{in_place, lowest_fork}
use Rattle.times.specs.InPath.{time_in}
use Rattle.times.specs.Time.{longest_time}
use Rattle.times.proofs.InPath.{time-small}
use Rattle.orders.specs.Lent.{order_in, JudgedOrder}
use Rattle.orders.proofs.Allowed.{below_each}
use Rattle.orders.proofs.Same.{equal}
use Rattle.group_sums.specs.Travel.{inner_travel, sums_of}
use Rattle.group_sums.specs.Between.{between, move_into, sum_by}
use Rattle.group_sums.proofs.Travel.{travel-le, length-sums_of}
use Rattle.group_sums.proofs.Between.{Between, lowest-between, between-lt, between-lowest}
use Rattle.group_sums.proofs.Adds.{sums-are, sums_by, move_into-take}
use Rattle.screen.specs.Local.{Within}

-- times that a 64-bit sum of a path's moves can hold
abbrev pub Short : (ℕ → ℕ → ℕ) → Type 0
Short t = (i j : ℕ) → t i j ≤ longest_time

pub times-short : (version : ℕ) (bytes : List ℕ) → Short (time_in version bytes)
times-short version bytes i j = time-small i _ j _

module _ (k : ℕ) (order : List ℕ) (j : JudgedOrder k order) where
  -- as many stops as the code counts
  pub count : (n : ℕ) → n ≡ stop_count k → n ≡ 2 ^ k
  count n e = e ∙ stop_count-pow k j.small

  pub few : 2 ^ k ≤ 1024
  few = pow-le-1024 k j.small

  -- the stop in a place, in the buffer and in the order
  pub stop-in : (p : ℕ) → p < 2 ^ k → in_place (order_in k order) p ≡ get_or order p 0
  stop-in p l = get_or-take (2 ^ k) order p 0 l

  pub stop-lt : (p : ℕ) → p < 2 ^ k → get_or order p 0 < 2 ^ k
  stop-lt p l =
      rw (stop-in p l) at (below_each (2 ^ k) (order_in k order) j.below p (omega (arith, length-take-le (2 ^ k) order j.long)))

  -- the fork between whose sides a place is, from the stop that the buffer has there
  pub lowest-in : (p : ℕ) → p < 2 ^ k → lowest_fork k p (get_or order p 0) ≡ lowest_fork k p (in_place (order_in k order) p)
  lowest-in p l = ap (lowest_fork k p) (sym (stop-in p l))

  pub fork-of : (p v : ℕ) → 1 ≤ p → p < 2 ^ k → v ≡ lowest_fork k p (get_or order p 0) → Between k (order_in k order) p v
  fork-of p v a b e =
      subst (λ x. Between k (order_in k order) p x) (sym (e ∙ lowest-in p b)) (lowest-between k (order_in k order) j.allowed p a b)

  -- the place is between the sides of no other fork
  pub between-other : (p u v : ℕ) → 1 ≤ v → v < 2 ^ k → u ≡ lowest_fork k p (get_or order p 0) → (u ≡ v → ⊥) → p ≡ between k (order_in k order) v → ⊥
  between-other p u v a b e n q =
      n (e ∙ ap (λ z. lowest_fork k z (get_or order z 0)) q ∙ lowest-in (between k (order_in k order) v) (between-lt k (order_in k order) j.allowed v a b)
      ∙ between-lowest k (order_in k order) j.allowed v a b)

  -- so a search for the place between a fork's sides ends there, and does not pass it
  pub between-found : (p v : ℕ) → 1 ≤ p → p < 2 ^ k → lowest_fork k p (get_or order p 0) ≡ v → p ≡ between k (order_in k order) v
  between-found p v a b e = sym (fork-of p v a b (sym e)).here

  pub between-later : (p u v : ℕ) → 1 ≤ v → v < 2 ^ k → p ≤ between k (order_in k order) v → u ≡ lowest_fork k p (get_or order p 0) → (u ≡ v → ⊥) → p + 1 ≤ between k (order_in k order) v
  between-later p u v a b l e n = go (equal p (between k (order_in k order) v))
    where
      go : Dec (p ≡ between k (order_in k order) v) → p + 1 ≤ between k (order_in k order) v
      go (yes q) = absurd (between-other p u v a b e n q)
      go (no q) = omega arith

  -- and a fork whose place is passed, and is not the one of p, was passed before p
  pub between-earlier : (p u v : ℕ) → 1 ≤ v → v < 2 ^ k → between k (order_in k order) v < p + 1 → u ≡ lowest_fork k p (get_or order p 0) → (u ≡ v → ⊥) → between k (order_in k order) v < p
  between-earlier p u v a b l e n = go (equal p (between k (order_in k order) v))
    where
      go : Dec (p ≡ between k (order_in k order) v) → between k (order_in k order) v < p
      go (yes q) = absurd (between-other p u v a b e n q)
      go (no q) = omega arith

  -- a sum by the sides, as the code has it: where those of the sides are right it is right, and fits
  pub by-sides : (t : ℕ → ℕ → ℕ) (s : List ℕ) (n v p y : ℕ) → n ≡ 2 ^ k → 1 ≤ v → v < 2 ^ k → p ≡ between k (order_in k order) v → p < 2 ^ k → y ≡ move_into t order p
      → ((w : ℕ) → v < w → w < 2 ^ k → get_or s w 0 ≡ inner_travel t k (order_in k order) w) → sum_by n s v y ≡ inner_travel t k (order_in k order) v
  by-sides t s n v p y count a b e l m right =
      let q : y ≡ move_into t (order_in k order) (between k (order_in k order) v) = m ∙ sym (move_into-take t (2 ^ k) order p l) ∙ ap (move_into t (order_in k order)) e in
      rw (q, count) (sums_by t k (order_in k order) j.allowed s v a b right)

  pub travel-fits : (t : ℕ → ℕ → ℕ) (v : ℕ) → Short t → inner_travel t k (order_in k order) v < 2 ^ 64
  travel-fits t v short = omega (arith, travel-le t k (order_in k order) v longest_time short, few)

-- ---- the lent sums

-- a store to a fork's place
pub within-set : (n : ℕ) (before s : List ℕ) (v x : ℕ) → 1 ≤ v → v < n → Within n before s → Within n before (set s v x)
within-set n before s v x a b w = record {
  long = rw (length-set s v x) w.long;
  same = length-set s v x ∙ w.same;
  zero = get_or-set_other s v 0 x 0 (λ e. absurd (omega arith)) ∙ w.zero;
  beyond = drop-set-lt n s v x b ∙ w.beyond;
}

-- all sums right
pub within-whole : (t : ℕ → ℕ → ℕ) (k : ℕ) (order before s : List ℕ) → JudgedOrder k order → Within (2 ^ k) before s
    → ((v : ℕ) → 1 ≤ v → v < 2 ^ k → get_or s v 0 ≡ inner_travel t k (order_in k order) v) → s ≡ over (sums_of t k (order_in k order)) before
within-whole t k order before s j w each =
    let o : List ℕ = order_in k order in
    let front : take (2 ^ k) s ≡ sums_of t k o = sums-are t k o j.allowed s w.long w.zero each in
    sym (take-append-drop (2 ^ k) s)
    ∙ rw (front, w.beyond) (sym (over-at (2 ^ k) (sums_of t k o) before (length-sums_of t k o)))

-- sums over a buffer that another pass has written first
pub over-within : (t : ℕ → ℕ → ℕ) (k : ℕ) (o before s afterwards : List ℕ) → Within (2 ^ k) before s → afterwards ≡ over (sums_of t k o) s
    → afterwards ≡ over (sums_of t k o) before
over-within t k o before s afterwards w e =
    let long : length (sums_of t k o) ≡ 2 ^ k = length-sums_of t k o in
    e ∙ over-at (2 ^ k) (sums_of t k o) s long ∙ ap (λ (l : List ℕ). sums_of t k o ++ l) w.beyond ∙ sym (over-at (2 ^ k) (sums_of t k o) before long)
