-- What M-101 asks of what is told, in its own words and by enumeration: 'The reason must be the true one for every fork of every path.'
use Rattle.std.specs.Prelude.{◌≡◌, List, ℕ, ◌+◌, ◌-◌, ◌^◌, ◌<◌}
use Rattle.tree.specs.Neighbour.{in_place}
use Rattle.tree.specs.Total.{total}
use Rattle.tree.specs.Wanted.{every, Shortest}
use Rattle.costs.specs.Costs.{held, InState}
use Rattle.fork_cost.specs.Cost.{Reason, dearer, tie, Cost}

-- 'the last place at which the returned order and the opposite one part': they differ there, and the returned order has the smaller stop; behind it they are alike
pub record PartAt (n : ℕ) (order other : List ℕ) (place : ℕ) : Type 0 where
  pub inside : place < n
  pub smaller : in_place order place < in_place other place
  pub alike : (p : ℕ) → place < p → p < n → in_place order p ≡ in_place other p

-- ''dearer', without a place, exactly if the difference is above 0. Otherwise it is 'tie', with the last place'
abbrev pub TrueReason : (n : ℕ) (order other : List ℕ) (more : ℕ) → Reason → Type 0
TrueReason n order other more dearer = 0 < more
TrueReason n order other more (tie place) = (more ≡ 0) × PartAt n order other place

-- THE TRUTH of a cost by the times t
pub record TrueCost (k : ℕ) (t : ℕ → ℕ → ℕ) (fork : ℕ) (c : Cost) : Type 0 where
  -- the returned order: demand 3 holds of it
  pub order : List ℕ
  pub sum : ℕ
  pub shortest : Shortest k (total t) every order sum
  -- 'the fork's state in the returned order': some set of forks gives the order, and has the fork so
  pub state : InState k order fork c.state
  -- 'the least total among all allowed orders with that fork in the opposite state'; 'the opposite order is chosen among its equals by the same rule from the back'
  pub other : List ℕ
  pub least : Shortest k (total t) (held fork (1 - c.state)) other c.total
  -- 'and that total less the returned one'
  pub difference : c.total ≡ sum + c.more
  pub reason : TrueReason (2 ^ k) order other c.more c.reason
