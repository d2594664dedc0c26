-- What is claimed of two accepted calls: 'the returned order is the same and its total grows by n−1 times the amount', for tours by 'n times the
-- amount for n at least 2 and zero for n = 1'.
use Rattle.std.specs.Prelude.{◌≡◌, List, ℕ, zero, suc, ◌+◌, ◌-◌, ◌^◌, take}

-- the moves of an order of n = 2^k stops: 'n−1'
abbrev pub order_moves : ℕ → ℕ
order_moves k = 2 ^ k - 1

-- the moves of a tour: 'n .. for n at least 2 and zero for n = 1', for the diagonal is no move
abbrev pub tour_moves : ℕ → ℕ
tour_moves zero = 0
tour_moves (suc k) = 2 ^ suc k

-- 'the returned order is the same and its total grows': the first n places of what the two calls left in their lent orders, and their totals
pub record Grows (k : ℕ) (order order₂ : List ℕ) (total total₂ growth : ℕ) : Type 0 where
  pub same : take (2 ^ k) order₂ ≡ take (2 ^ k) order
  pub more : total₂ ≡ total + growth
