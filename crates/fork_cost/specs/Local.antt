-- What the private functions ask and promise.
use Rattle.std.specs.Prelude.{◌≡◌, Bool, List, ℕ, ◌+◌, ◌-◌, ◌^◌, ◌≤◌}
use Rattle.base.specs.Outcome.{number, over}
use Rattle.path.specs.declared.PathBytes.{PathBytes}
use Rattle.path.specs.Path.{body_after_head, stops_in}
use Rattle.times.specs.Table.{entry_of}
use Rattle.tree.specs.Total.{total}
use Rattle.planner.specs.Plan.{Plan, cleared}
use Rattle.planner.specs.HeldFork.{held_plan, state_of}
use Rattle.fork_cost.specs.declared.ForkCost.{ForkCost}
use Rattle.fork_cost.specs.declared.plans.Both.{Both}
use Rattle.fork_cost.specs.Cost.{Cost, state_in, returned, opposite, reason_for, cost_of, told}

-- judged path bytes, and work space of 2n numbers each
pub record Judged (path : PathBytes) (totals pivots : ℕ) : Type 0 where
  pub small : path.k ≤ 10
  pub body : number (body_after_head path.bytes.now path.version path.k) ≡ 0
  pub rows : 2 ^ path.k + 2 ^ path.k ≤ totals
  pub marks : 2 ^ path.k + 2 ^ path.k ≤ pivots

-- the times between the stops of judged bytes
abbrev pub times_of : (bytes : List ℕ) (version k : ℕ) → ℕ → ℕ → ℕ
times_of bytes version k = entry_of (stops_in version (2 ^ k) bytes)

abbrev pub times_by : PathBytes → ℕ → ℕ → ℕ
times_by path = times_of path.bytes.now path.version path.k

-- the work space is 0 again
pub record Cleared (k : ℕ) (totals pivots totals' pivots' : List ℕ) : Type 0 where
  pub rows : totals' ≡ over (cleared k) totals
  pub marks : pivots' ≡ over (cleared k) pivots

-- so many stops were written, and a total answered
pub record OrderLeft (k : ℕ) (stops : List ℕ) (sum : ℕ) (orders' totals pivots totals' pivots' : List ℕ) (r : ℕ) : Type 0 where
  pub wrote : orders' ≡ stops
  pub summed : r ≡ sum
  pub space : Cleared k totals pivots totals' pivots'

-- the order that is wanted among those that have a fork exchanged or not, fork 0 for all orders, and its total
abbrev pub plan_of : (bytes : List ℕ) (version k fork : ℕ) (exchanged : Bool) → Plan
plan_of bytes version k fork exchanged = held_plan k (stops_in version (2 ^ k) bytes) fork (state_of exchanged)

abbrev pub plan_by : PathBytes → (fork : ℕ) (exchanged : Bool) → Plan
plan_by path = plan_of path.bytes.now path.version path.k

-- both orders were written, with the fork's state in the first and both totals
pub record BothLeft (k : ℕ) (t : ℕ → ℕ → ℕ) (fork : ℕ) (returned' opposite' totals pivots totals' pivots' : List ℕ) (r : Both) : Type 0 where
  pub wrote : returned' ≡ returned k t
  pub other : opposite' ≡ opposite k t fork
  pub state : state_of r.exchanged ≡ state_in k (returned k t) fork
  pub sum : r.total ≡ total t (returned k t)
  pub other_sum : r.other ≡ total t (opposite k t fork)
  pub space : Cleared k totals pivots totals' pivots'

-- the cost from two totals and the place where their orders part
abbrev pub cost_from : Both → ℕ → Cost
cost_from both place =
    let more = both.other - both.total in
    record { state = state_of both.exchanged; total = both.other; more = more; reason = reason_for more place }

-- the cost was answered, and the work space is 0 again
pub record CostLeft (k : ℕ) (t : ℕ → ℕ → ℕ) (fork : ℕ) (orders' totals pivots totals' pivots' : List ℕ) (r : ForkCost) : Type 0 where
  pub given : told r ≡ cost_of k t fork
  pub orders : orders' ≡ cleared k
  pub space : Cleared k totals pivots totals' pivots'
