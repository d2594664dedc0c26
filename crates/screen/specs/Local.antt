-- What the private functions ask and promise: of places, and of the lent sums, place by place.
use Rattle.std.specs.Prelude.{◌≡◌, List, ◌≢◌, ℕ, ◌+◌, ◌*◌, ◌/◌, ◌^◌, ◌≤◌, ◌<◌, length, get_or, drop}
use Rattle.tree.specs.Neighbour.{reach}
use Rattle.group_sums.specs.Travel.{inner_travel}
use Rattle.group_sums.specs.Between.{between, move_into, sum_by}

-- the place between the sides of the fork above, from that of a fork below it: half the fork's group is the reach of its place
unfoldable pub place_above : ℕ → ℕ
place_above p = p / (4 * reach p) * (4 * reach p) + 2 * reach p

-- a buffer of n numbers or more with 0 in place 0, and from place n on what it held before
pub record Within (n : ℕ) (before s : List ℕ) : Type 0 where
  pub long : n ≤ length s
  pub same : length s ≡ length before
  pub zero : get_or s 0 0 ≡ 0
  pub beyond : drop n s ≡ drop n before

-- place 0 holds 0, and the sum of each fork whose sides part before place p is those of its sides and the move between them
pub record Tested (t : ℕ → ℕ → ℕ) (k : ℕ) (o : List ℕ) (p : ℕ) (s : List ℕ) : Type 0 where
  pub zero : get_or s 0 0 ≡ 0
  pub adds : (v : ℕ) → 1 ≤ v → v < 2 ^ k → between k o v < p → get_or s v 0 ≡ sum_by (2 ^ k) s v (move_into t o (between k o v))

-- each fork whose sides part before place p has that place in its own place
pub record Placed (k : ℕ) (o before : List ℕ) (p : ℕ) (s : List ℕ) : Type 0 where
  pub within : Within (2 ^ k) before s
  pub places : (v : ℕ) → 1 ≤ v → v < 2 ^ k → between k o v < p → get_or s v 0 ≡ between k o v

-- each fork from v on has its sum, and each before v the place between its sides
pub record Summed (t : ℕ → ℕ → ℕ) (k : ℕ) (o before : List ℕ) (v : ℕ) (s : List ℕ) : Type 0 where
  pub within : Within (2 ^ k) before s
  pub last : v ≤ 2 ^ k
  pub places : (u : ℕ) → 1 ≤ u → u < 2 ^ k → u < v → get_or s u 0 ≡ between k o u
  pub sums : (u : ℕ) → 1 ≤ u → u < 2 ^ k → v ≤ u → get_or s u 0 ≡ inner_travel t k o u

-- each fork but u and those above it has its sum
pub record Updated (t : ℕ → ℕ → ℕ) (k : ℕ) (o before : List ℕ) (u : ℕ) (s : List ℕ) : Type 0 where
  pub within : Within (2 ^ k) before s
  pub sums : (w : ℕ) → 1 ≤ w → w < 2 ^ k → ((j : ℕ) → u / 2 ^ j ≢ w) → get_or s w 0 ≡ inner_travel t k o w
