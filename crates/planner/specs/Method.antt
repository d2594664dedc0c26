-- The method for any costs by place: what fixing a middle place and solving a block do to an order, and what is found in the end.
use Rattle.std.specs.Prelude.{◌≡◌, true, List, ℕ, zero, suc, ◌+◌, ◌*◌, ◌-◌, ◌^◌, ◌≤◌, ◌<◌, length, get_or, set, replicate}
use Rattle.walks.specs.Walk.{Graph}
use Rattle.walks.specs.Halves.{past}
use Rattle.walks.specs.Places.{stops_to}
use Rattle.walks.specs.Best.{best, plan, at}
use Rattle.walks.specs.Rows.{turn, last}
use Rattle.tree.specs.Neighbour.{in_place}
use Rattle.tree.specs.Wanted.{backward}
use Rattle.rows.specs.Costing.{Costing, block_graph}
use Rattle.rows.specs.Row.{unreached}
use Rattle.rows.specs.Pass.{pass_weighings}
use Rattle.base.specs.Outcome.{over}
use Rattle.planner.specs.declared.Planned.{Planned}

-- of x 0, x 1, .. the first d: the least that is below `unreached`, with its number; of equals the smaller number
unfoldable pub least_of : (ℕ → ℕ) → ℕ → ℕ × ℕ
least_of x zero = (unreached, 0)
least_of x (suc d) = turn true (x d) d (least_of x d)

-- the stop in the place before `left`; place 0 has none before it, and stop 0 stands for that
abbrev pub stop_before : List ℕ → ℕ → ℕ
stop_before o zero = 0
stop_before o (suc l) = in_place o l

-- the walks through the places from `left` on, after what an order holds before them
abbrev pub walks_from : Costing → List ℕ → ℕ → Graph
walks_from C o left = block_graph C (stop_before o left) left

-- those through all places
abbrev pub all_walks : Costing → Graph
all_walks C = block_graph C 0 0

-- there is an order
pub record HasPlan (C : Costing) (n : ℕ) : Type 0 where
  pub cost : ℕ
  pub walk : List ℕ
  pub found : plan (all_walks C) (n - 1) ≡ at cost walk

-- the lengths that the method works with, for n = 2^k stops
pub record LentSizes (n order totals pivots : ℕ) : Type 0 where
  pub k : ℕ
  pub small : k ≤ 10
  pub stops : n ≡ 2 ^ k
  pub places : order ≡ n
  pub rows : totals ≡ n + n
  pub marks : pivots ≡ n + n

-- what is written in the places of an order are stops
pub record HoldsStops (n : ℕ) (o : List ℕ) : Type 0 where
  pub below : (p : ℕ) → p < n → in_place o p < n

-- a block's last place holds a stop that can be reached: the best walk to it
pub record LastReached (C : Costing) (o : List ℕ) (left m : ℕ) : Type 0 where
  pub cost : ℕ
  pub walk : List ℕ
  pub found : best (walks_from C o left) (2 ^ m - 1) (in_place o (left + 2 ^ m - 1)) ≡ at cost walk

-- what fixing the middle place of a block does to an order: it holds the stop there of the best walk to the last place
pub record MiddleFixed (C : Costing) (left m : ℕ) (o u : List ℕ) : Type 0 where
  pub pivot : ℕ
  pub stored : u ≡ set o (left + 2 ^ (m - 1) - 1) pivot
  pub right : (c : ℕ) (l : List ℕ) → best (walks_from C o left) (2 ^ m - 1) (in_place o (left + 2 ^ m - 1)) ≡ at c l → pivot ≡ get_or l (2 ^ (m - 1) - 1) 0

-- what solving a block of 2^m places does to an order: the best walk to its last place stands before it, and nothing else changed
pub record BlockSolved (n : ℕ) (C : Costing) (left m : ℕ) (o u : List ℕ) : Type 0 where
  pub stops : HoldsStops n u
  pub before : (p : ℕ) → p < left → in_place u p ≡ in_place o p
  pub after : (p : ℕ) → left + 2 ^ m ≤ p + 1 → in_place u p ≡ in_place o p
  pub filled : (c : ℕ) (l : List ℕ) → best (walks_from C o left) (2 ^ m - 1) (in_place o (left + 2 ^ m - 1)) ≡ at c l
      → stops_to (λ x. in_place u (past left x)) (2 ^ m - 1) ≡ l

-- the whole order with its last and its middle place fixed: `before` has the last place alone, which holds the least of the last row
pub record EndsFixed (n : ℕ) (C : Costing) (k : ℕ) (u : List ℕ) (total : ℕ) : Type 0 where
  pub before : List ℕ
  pub long : length before ≡ n
  pub stops : HoldsStops n before
  pub chosen : last (all_walks C) (n - 1) ≡ at total (in_place before (n - 1))
  pub halved : MiddleFixed C 0 k before u

-- M-113: 'passes over 2 places make none': the weighings of solving a block of 2^m places, whose last place is fixed
unfoldable pub solve_weighings : ℕ → ℕ
solve_weighings zero = 0
solve_weighings (suc zero) = 0
solve_weighings (suc (suc m)) = pass_weighings (suc (suc m)) + 2 * solve_weighings (suc m)

-- those of the whole method: 'except that k = 1 makes 2'
unfoldable pub plan_weighings : ℕ → ℕ
plan_weighings zero = 0
plan_weighings (suc k) = pass_weighings (suc k) + 2 * solve_weighings k

-- THE BEST ORDER by the costs: its stops read from the last place back are the best walk through all places, which costs the total
pub record BestOrder (C : Costing) (n : ℕ) (order : List ℕ) (total : ℕ) : Type 0 where
  pub long : length order ≡ n
  pub planned : plan (all_walks C) (n - 1) ≡ at total (backward order)

-- what a run of the method leaves: the best order and its total, the number of weighings, and work space that is 0
pub record LeftByMethod (C : Costing) (k : ℕ) (order totals pivots order' totals' pivots' : List ℕ) (r : Planned) : Type 0 where
  pub found : List ℕ
  pub best : BestOrder C C.stops found r.total
  pub counted : r.weighings ≡ plan_weighings k
  pub wrote : order' ≡ over found order
  pub cleared : totals' ≡ over (replicate (C.stops + C.stops) 0) totals
  pub unmarked : pivots' ≡ over (replicate (C.stops + C.stops) 0) pivots

-- the lengths of lent buffers that a run needs, for n = 2^k stops
pub record RoomFor (n k order totals pivots : ℕ) : Type 0 where
  pub small : k ≤ 10
  pub stops : n ≡ 2 ^ k
  pub places : n ≤ order
  pub rows : n + n ≤ totals
  pub marks : n + n ≤ pivots
