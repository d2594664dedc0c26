-- M-104: round trips. What planning a tour answers, and what the private functions ask and promise.
use Rattle.std.specs.Prelude.{◌≡◌, List, ℕ, ◌+◌, ◌*◌, ◌-◌, ◌^◌, ◌≤◌, ◌<◌, leb, length, replicate, Result}
use Rattle.base.specs.declared.Refusal.{Refusal}
use Rattle.base.specs.Refusal.{wrong_k}
use Rattle.base.specs.Outcome.{Outcome, need, giving, over}
use Rattle.base.specs.Buffer.{Unsigned, SharedUnsigned, at_entry, at_exit, contents}
use Rattle.walks.specs.Walk.{Graph}
use Rattle.walks.specs.Rows.{line, Codes}
use Rattle.tree.specs.Total.{entry}
use Rattle.tree.specs.Wanted.{wanted, every}
use Rattle.costs.specs.Costs.{closed_total}
use Rattle.costs.specs.Graphs.{tour_graph}
use Rattle.costs.specs.Ends.{best_end}
use Rattle.rows.specs.Row.{unreached}
use Rattle.planner.specs.Plan.{Plan, plan_room}
use Rattle.planner.specs.Places.{OrderIsWritten}
use Rattle.planner.specs.declared.halve.Choice.{Choice}

-- 'Tours are for k up to 7'
abbrev pub max_tour_k : ℕ
max_tour_k = 7

-- whether buffers of these lengths will do: 'above that 5 is given', and then the planner's tests: 'The work space is the planner's'
unfoldable pub tour_room : (k table order totals pivots : ℕ) → Outcome Unit
tour_room k table order totals pivots = need (leb k max_tour_k) wrong_k (plan_room k table order totals pivots)

-- 'Among tours the least total is wanted, ties as before': the order that is wanted by its closed total, and that total
abbrev pub tour_plan : ℕ → List ℕ → Plan
tour_plan k table =
    let cost = closed_total (entry (2 ^ k) table) in
    record { order = wanted k cost every; total = cost (wanted k cost every) }

-- planning a tour, with buffers of these lengths
abbrev pub plan_tour : (k : ℕ) (table : List ℕ) (order totals pivots : ℕ) → Outcome Plan
plan_tour k table order totals pivots = giving (λ room. tour_plan k table) (tour_room k (length table) order totals pivots)

-- the promise, of the call's parameters
abbrev pub PlansTour : ℕ → SharedUnsigned → Unsigned → Unsigned → Unsigned → Result ℕ Refusal → Type 0
PlansTour k table order totals pivots r =
    OrderIsWritten k (plan_tour k (contents table) (length (at_entry order)) (length (at_entry totals)) (length (at_entry pivots)))
    (at_entry order) (at_entry totals) (at_entry pivots) (at_exit order) (at_exit totals) (at_exit pivots) r

-- ---- the method

-- what it works with: 2^k stops, two or more, and a table of n rows
pub record TourSizes (n k table : ℕ) : Type 0 where
  pub some : 0 < k
  pub small : k ≤ 10
  pub stops : n ≡ 2 ^ k
  pub square : table ≡ n * n

-- the walks of the tours that end with stop e
abbrev pub tours_to : ℕ → ℕ → List ℕ → ℕ → Graph
tours_to n k table = tour_graph k (entry n table)

-- the number r stands for the closed total of the best tour that ends with stop e
pub record EndWeighed (n k : ℕ) (table : List ℕ) (e r : ℕ) : Type 0 where
  pub pivot : ℕ
  pub codes : Codes unreached r pivot (line (tours_to n k table e) (2 ^ (k - 1) - 1) (2 ^ k - 1) e)

-- of the stops below e the last one of the best tour is held, with its closed total
pub record EndHeld (n k : ℕ) (table : List ℕ) (e : ℕ) (held : Choice) : Type 0 where
  pub codes : Codes unreached held.total held.stop (best_end (tours_to n k table) (2 ^ (k - 1) - 1) (2 ^ k - 1) e)
  pub below : held.stop < n

-- the best tour is written, and c is its closed total
pub record TourWritten (n k : ℕ) (table order : List ℕ) (c : ℕ) : Type 0 where
  pub tour : order ≡ wanted k (closed_total (entry n table)) every
  pub total : c ≡ closed_total (entry n table) (wanted k (closed_total (entry n table)) every)

-- what planning a tour leaves: the best tour and its closed total c, and work space that is 0
pub record LeftByTour (n k : ℕ) (table order totals pivots order' totals' pivots' : List ℕ) (c : ℕ) : Type 0 where
  pub found : List ℕ
  pub best : TourWritten n k table found c
  pub wrote : order' ≡ over found order
  pub cleared : totals' ≡ over (replicate (n + n) 0) totals
  pub unmarked : pivots' ≡ over (replicate (n + n) 0) pivots
