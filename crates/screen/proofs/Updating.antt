-- The sums after an exchange: a fork's sum is made anew from its sides, which are right, and then only the forks above it are left.
use mathlib.Core.Path.{◌≡◌, refl, sym, ap, ◌∙◌}
use mathlib.Core.Bool.{true}
use mathlib.Core.List.{List, ◌++◌}
use mathlib.Core.Logic.{◌≢◌}
use Prim.Native.Nat.{ℕ, zero, suc, ◌+◌, ◌*◌, ◌-◌, ◌/◌, ◌^◌, ◌≤◌, ◌<◌}
use native.Mathlib.Nat.{div-one}
use native.Mathlib.Omega.{arith}
use lib.ListN.{length, get_or, set, take, drop, take-append-drop, length-drop}
use lib.Pow.{pow_pos, shr_le}
use lib.Seq.{get_or-set_same, get_or-set_other, get_or-take, length-take-le}
use Rattle.base.specs.Outcome.{over}
use Rattle.base.proofs.Outcome.{over-at, over-front}
use Rattle.tree.specs.Neighbour.{reach, reach_of}
use Rattle.tree.proofs.Beside.{shr-suc, reach_of-pos}
use Rattle.orders.specs.Allowed.{is_allowed}
use Rattle.orders.specs.Lent.{order_in, JudgedOrder}
use Rattle.orders.proofs.Lent.{holds-order}
use Rattle.orders.proofs.Same.{equal}
use Rattle.groups.specs.Exchange.{exchange_fork}
use Rattle.groups.specs.Group.{half_size, group_start}
use Rattle.groups.proofs.Exchange.{exchange-allowed, length-exchange}
use Rattle.groups.proofs.Sides.{fork-swaps}
use Rattle.group_sums.specs.Travel.{inner_travel, sums_of}
use Rattle.group_sums.specs.Between.{between, move_into, sum_by}
use Rattle.group_sums.specs.Swaps.{halves_swapped}
use Rattle.group_sums.proofs.Travel.{travel-other, sums-zero, sums-fork}
use Rattle.group_sums.proofs.Between.{between-pos, between-lt, between-reach, between-up, between-kept}
use Rattle.group_sums.proofs.InPlace.{swap-exchanges}
use Rattle.screen.specs.Local.{place_above, Updated}
use Rattle.screen.proofs.Order.{Short, few, by-sides, travel-fits, within-set, within-whole}

-- after fork v is exchanged, only the sums of v and of the forks above it are not those of the new order
pub updated_none : (t : ℕ → ℕ → ℕ) (k : ℕ) (o sums : List ℕ) (v : ℕ) → is_allowed k o ≡ true → 1 ≤ v → v < 2 ^ k → 2 ^ k ≤ length sums
    → take (2 ^ k) sums ≡ sums_of t k o → Updated t k (exchange_fork k o v) sums v sums
updated_none t k o sums v allowed a b long e = record {
  within = record { long = long; same = refl; zero = at 0 (pow_pos k) ∙ sums-zero t k o; beyond = refl };
  sums = λ w c d away. at w d ∙ sums-fork t k o w c d ∙ sym (travel-other t k o allowed v a b (exchange-allowed k o (2 ^ v)) w c d away);
}
  where
    at : (w : ℕ) → w < 2 ^ k → get_or sums w 0 ≡ get_or (sums_of t k o) w 0
    at w l = sym (get_or-take (2 ^ k) sums w 0 l) ∙ ap (λ (s : List ℕ). get_or s w 0) e

module _ (t : ℕ → ℕ → ℕ) (k : ℕ) (order before : List ℕ) (j : JudgedOrder k order) (u : ℕ) (s : List ℕ) (low : 0 < u) (high : u < 2 ^ k)
    (at : ℕ) (here : at ≡ between k (order_in k order) u) (w : Updated t k (order_in k order) before u s) where
  -- the place between the fork's sides
  pub at-inside : (0 < at) × (at < 2 ^ k)
  at-inside = rw here (between-pos k (order_in k order) j.allowed u low high, between-lt k (order_in k order) j.allowed u low high)

  -- the fork's sum by its sides, which are right
  pub fork-sum : (n y : ℕ) → n ≡ 2 ^ k → y ≡ move_into t order at → sum_by n s u y ≡ inner_travel t k (order_in k order) u
  fork-sum n y count m =
      by-sides k order j t s n u at y count low high here at-inside.1 m
      (λ x c d. w.sums x (omega arith) d (λ i e. absurd (omega (arith, shr_le u i))))

  pub fork-fits : (n y : ℕ) → Short t → n ≡ 2 ^ k → y ≡ move_into t order at → sum_by n s u y < 2 ^ 64
  fork-fits n y short count m = rw (fork-sum n y count m) (travel-fits k order j t u short)

  -- written, only the forks above are left
  pub updated-more : (n y x : ℕ) → n ≡ 2 ^ k → y ≡ move_into t order at → x ≡ sum_by n s u y → Updated t k (order_in k order) before (u / 2) (set s u x)
  updated-more n y x count m e = record { within = within-set (2 ^ k) before s u x low high w.within; sums = λ z c d away. go z c d away (equal z u) }
    where
      go : (z : ℕ) → 1 ≤ z → z < 2 ^ k → ((i : ℕ) → u / 2 / 2 ^ i ≢ z) → Dec (z ≡ u) → get_or (set s u x) z 0 ≡ inner_travel t k (order_in k order) z
      go z c d away (yes q) = rw q (get_or-set_same s u x 0 (omega (arith, w.within.long)) ∙ e ∙ fork-sum n y count m)
      go z c d away (no q) = get_or-set_other s u z x 0 q ∙ w.sums z c d apart
        where
          apart : (i : ℕ) → u / 2 ^ i ≢ z
          apart zero f = q (sym (sym (div-one u) ∙ f))
          apart (suc i) f = away i (sym (shr-suc u i) ∙ f)

  -- and the place between the sides of the next one
  pub place_up : 0 < u / 2 → place_above at ≡ between k (order_in k order) (u / 2)
  unfolding place_above
  place_up up =
      let r : reach at ≡ half_size k u = ap reach here ∙ between-reach k (order_in k order) j.allowed u low high in
      rw (r, here) (between-up k (order_in k order) j.allowed u low high up)

-- none is left above the root
pub updated-all : (t : ℕ → ℕ → ℕ) (k : ℕ) (order before s : List ℕ) (u : ℕ) → JudgedOrder k order → u ≡ 0 → Updated t k (order_in k order) before u s
    → s ≡ over (sums_of t k (order_in k order)) before
updated-all t k order before s u j e w =
    within-whole t k order before s j w.within (λ v a b. w.sums v a b (λ i f. absurd (omega (arith, shr_le u i))))

-- ---- an exchange in lent buffers: p is the place between the fork's sides, and r its reach

module _ (k : ℕ) (order : List ℕ) (j : JudgedOrder k order) (v : ℕ) (low : 1 ≤ v) (high : v < 2 ^ k) (p r : ℕ)
    (found : p ≡ between k (order_in k order) v) (is : r ≡ reach_of p) where
  o : List ℕ
  o = order_in k order

  -- half the fork's group
  half : r ≡ half_size k v
  unfolding o
  half =
      is ∙ reach_of-pos p (omega (arith, found, between-pos k o j.allowed v low high)) ∙ ap reach found
      ∙ between-reach k o j.allowed v low high

  -- so the fork's block starts half before the place
  start : p - r ≡ group_start k o v
  unfolding o
  start = omega (arith, found, half)

  pub half-before : r ≤ p
  half-before = omega (arith, found, half)

  pub block-fits : p - r + 2 * r ≤ length order
  unfolding o
  block-fits = omega (arith, start, half, (fork-swaps k o j.allowed v low high).fits, j.long)

  -- the place and half the group are small
  pub place-few : p + r ≤ 2048
  unfolding o
  place-few = omega (arith, half-before, found, between-lt k o j.allowed v low high, few k order j)

  -- the block is so long, and so is what is put back in its place
  pub block-is : p + r - (p - r) ≡ 2 * r
  block-is = omega (arith, half-before)

  pub block-long : length (take (p + r - (p - r)) (drop (p - r) order)) ≡ 2 * r
  block-long = rw block-is (length-take-le (2 * r) (drop (p - r) order) (rw (length-drop (p - r) order) (omega (arith, block-fits))))

  module _ (block' : List ℕ) (swapped : block' ≡ drop r (take (p + r - (p - r)) (drop (p - r) order)) ++ take r (take (p + r - (p - r)) (drop (p - r) order))) where
    abbrev pub order' : List ℕ
    order' = take (p - r) order ++ (block' ++ drop (p + r - (p - r)) (drop (p - r) order))

    is-swapped : order' ≡ halves_swapped (p - r) r order
    unfolding halves_swapped
    is-swapped = rw (swapped, block-is)

    -- the halves swapped make the exchanged order
    pub now-exchanged : order' ≡ over (exchange_fork k (order_in k order) v) order
    unfolding o
    now-exchanged =
        is-swapped
        ∙ rw (start, half)
        (ap (λ (l : List ℕ). halves_swapped (group_start k o v) (half_size k v) l) (sym (take-append-drop (2 ^ k) order))
        ∙ swap-exchanges k o (drop (2 ^ k) order) v j.allowed low high)
        ∙ sym (over-at (2 ^ k) (exchange_fork k o v) order (length-exchange k o (2 ^ v)))

    pub now-order : order_in k order' ≡ exchange_fork k (order_in k order) v
    now-order = rw now-exchanged (over-front (2 ^ k) (exchange_fork k (order_in k order) v) order (length-exchange k (order_in k order) (2 ^ v)))

    pub now-judged : JudgedOrder k order'
    now-judged = rw now-exchanged (holds-order k (exchange_fork k (order_in k order) v) order j.small (exchange-allowed k (order_in k order) (2 ^ v)))

    -- the place between the fork's sides is where it was
    pub now-between : p ≡ between k (order_in k order') v
    now-between = found ∙ sym (rw now-order (between-kept k (order_in k order) j.allowed v low high))

    -- the sums of all other groups are right
    pub now-updated : (t : ℕ → ℕ → ℕ) (sums : List ℕ) → 2 ^ k ≤ length sums → take (2 ^ k) sums ≡ sums_of t k (order_in k order)
        → Updated t k (order_in k order') sums v sums
    now-updated t sums long e = rw now-order (updated_none t k (order_in k order) sums v j.allowed low high long e)

    pub now-sums : (t : ℕ → ℕ → ℕ) (sums sums' : List ℕ) → sums' ≡ over (sums_of t k (order_in k order')) sums
        → sums' ≡ over (sums_of t k (exchange_fork k (order_in k order) v)) sums
    now-sums t sums sums' e = e ∙ ap (λ (x : List ℕ). over (sums_of t k x) sums) now-order
