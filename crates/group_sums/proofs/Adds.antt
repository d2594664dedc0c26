-- The sums of an order are the one list in which every fork's sum is that of its sides and the move between them: from the bottom up there
-- is no choice. So they are made, tested and updated fork by fork.
use mathlib.Core.Path.{◌≡◌, sym, ap₂, ◌∙◌}
use mathlib.Core.Bool.{true}
use mathlib.Core.List.{List}
use Prim.Native.Nat.{ℕ, zero, suc, ◌+◌, ◌-◌, ◌^◌, ◌≤◌, ◌<◌}
use native.Mathlib.Nat.{pow-succ'}
use native.Mathlib.Decide.{dec_lt}
use native.Mathlib.Omega.{arith}
use lib.ListN.{length, get_or, take}
use lib.Seq.{get_or-take, length-take-le}
use borrow.Author.Tests.{lt-ltb, le-ltb}
use Rattle.base.proofs.Lists.{tabulate-of}
use Rattle.tree.specs.Fork.{side}
use Rattle.orders.specs.Allowed.{is_allowed}
use Rattle.group_sums.specs.Travel.{inner_travel, sum_at, sums_of}
use Rattle.group_sums.specs.Between.{between, move_into, side_sum, sum_by}
use Rattle.group_sums.proofs.Travel.{travel-sides, travel-stop, sum_at-fork, sums-fork}

-- the sum of a side, below n and above
pub side-below : (n : ℕ) (s : List ℕ) (w : ℕ) → w < n → side_sum n s w ≡ get_or s w 0
unfolding side_sum
side-below n s w l = rw (lt-ltb w n l)

pub side-above : (n : ℕ) (s : List ℕ) (w : ℕ) → n ≤ w → side_sum n s w ≡ 0
unfolding side_sum
side-above n s w l = rw (le-ltb w n l)

-- the first n numbers decide
pub sum_by-take : (n : ℕ) (s : List ℕ) (v x : ℕ) → sum_by n (take n s) v x ≡ sum_by n s v x
sum_by-take n s v x = ap₂ (λ a b. a + b + x) (same (side v 0)) (same (side v 1))
  where
    same : (w : ℕ) → side_sum n (take n s) w ≡ side_sum n s w
    same w = go (dec_lt w n)
      where
        go : Dec (w < n) → side_sum n (take n s) w ≡ side_sum n s w
        go (yes l) = side-below n (take n s) w l ∙ get_or-take n s w 0 l ∙ sym (side-below n s w l)
        go (no l) = side-above n (take n s) w (omega arith) ∙ sym (side-above n s w (omega arith))

pub move_into-take : (t : ℕ → ℕ → ℕ) (n : ℕ) (o : List ℕ) (p : ℕ) → p < n → move_into t (take n o) p ≡ move_into t o p
move_into-take t n o p l = ap₂ t (get_or-take n o (p - 1) 0 (omega arith)) (get_or-take n o p 0 l)

-- fork v's sum in s is that of its sides and the move between them
abbrev pub Adds : (t : ℕ → ℕ → ℕ) (k : ℕ) (o s : List ℕ) (v : ℕ) → Type 0
Adds t k o s v = get_or s v 0 ≡ sum_by (2 ^ k) s v (move_into t o (between k o v))

module _ (t : ℕ → ℕ → ℕ) (k : ℕ) (o : List ℕ) (allowed : is_allowed k o ≡ true) where
  -- where the sums of both sides are right, so is what they make
  pub sums_by : (s : List ℕ) (v : ℕ) → 1 ≤ v → v < 2 ^ k → ((w : ℕ) → v < w → w < 2 ^ k → get_or s w 0 ≡ inner_travel t k o w)
      → sum_by (2 ^ k) s v (move_into t o (between k o v)) ≡ inner_travel t k o v
  sums_by s v a b right =
      ap₂ (λ x y. x + y + move_into t o (between k o v)) (one 0 (omega arith)) (one 1 (omega arith)) ∙ sym (travel-sides t k o allowed v a b)
    where
      one : (c : ℕ) → c < 2 → side_sum (2 ^ k) s (side v c) ≡ inner_travel t k o (side v c)
      one c l = go (dec_lt (side v c) (2 ^ k))
        where
          go : Dec (side v c < 2 ^ k) → side_sum (2 ^ k) s (side v c) ≡ inner_travel t k o (side v c)
          go (yes h) = side-below (2 ^ k) s (side v c) h ∙ right (side v c) (omega arith) h
          go (no h) =
              side-above (2 ^ k) s (side v c) (omega arith) ∙ sym (travel-stop t k o allowed (side v c) (omega arith) (omega (arith, pow-succ' 2 k)))

  -- the order's own sums add up
  pub sums-add : (v : ℕ) → 1 ≤ v → v < 2 ^ k → Adds t k o (sums_of t k o) v
  sums-add v a b =
      sums-fork t k o v a b ∙ sym (sums_by (sums_of t k o) v a b (λ w c d. sums-fork t k o w (omega arith) d))

  -- and no others do
  pub adds-travel : (s : List ℕ) → ((v : ℕ) → 1 ≤ v → v < 2 ^ k → Adds t k o s v) → (v : ℕ) → 1 ≤ v → v < 2 ^ k → get_or s v 0 ≡ inner_travel t k o v
  adds-travel s adds v a b = from (2 ^ k) v a b (omega arith)
    where
      from : (c v : ℕ) → 1 ≤ v → v < 2 ^ k → 2 ^ k ≤ v + c → get_or s v 0 ≡ inner_travel t k o v
      from zero v a b e = absurd (omega arith)
      from (suc c) v a b e = adds v a b ∙ sums_by s v a b (λ w x y. from c w (omega arith) y (omega arith))

  -- a list by its numbers
  pub sums-are : (s : List ℕ) → 2 ^ k ≤ length s → get_or s 0 0 ≡ 0 → ((v : ℕ) → 1 ≤ v → v < 2 ^ k → get_or s v 0 ≡ inner_travel t k o v)
      → take (2 ^ k) s ≡ sums_of t k o
  unfolding sum_at
  sums-are s long z each = tabulate-of (2 ^ k) (sum_at t k o) (take (2 ^ k) s) 0 (length-take-le (2 ^ k) s long) at
    where
      at : (v : ℕ) → v < 2 ^ k → get_or (take (2 ^ k) s) v 0 ≡ sum_at t k o v
      at zero l = get_or-take (2 ^ k) s 0 0 l ∙ z
      at (suc v) l = get_or-take (2 ^ k) s (suc v) 0 l ∙ each (suc v) (omega arith) l ∙ sym (sum_at-fork t k o (suc v) (omega arith))
