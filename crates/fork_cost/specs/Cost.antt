-- M-101: WHAT A FORK COSTS THE OTHER WAY: 'For a path and one fork, give the fork's state in the returned order, the least total among all allowed orders with that fork in the
-- opposite state, and that total less the returned one.'
use Rattle.std.specs.Prelude.{◌≡◌, cond, List, ℕ, zero, suc, ◌+◌, ◌-◌, ◌^◌, leb, eqb, length, Result}
use Rattle.base.specs.declared.Refusal.{Refusal}
use Rattle.base.specs.Refusal.{wrong_size, no_such_fork}
use Rattle.base.specs.Outcome.{Outcome, gives, need, and_then, giving, said, after}
use Rattle.base.specs.Buffer.{Unsigned, SharedUnsigned, at_entry, at_exit, contents}
use Rattle.path.specs.Path.{Path, read_path}
use Rattle.times.specs.Table.{entry_of}
use Rattle.tree.specs.Fork.{bit}
use Rattle.tree.specs.Neighbour.{in_place}
use Rattle.tree.specs.Total.{total}
use Rattle.tree.specs.Wanted.{wanted, every}
use Rattle.costs.specs.Costs.{held}
use Rattle.orders.specs.Allowed.{forks_of}
use Rattle.screen.specs.Records.{is_fork}
use Rattle.planner.specs.Plan.{cleared}
use Rattle.planner.specs.HeldFork.{state_of}
use Rattle.fork_cost.specs.declared.ForkCost.{ForkCost}
use Rattle.fork_cost.specs.declared.ForkCost.TheVariants.{Dearer, Tie}

-- 'The reason is 'dearer', without a place ..; Otherwise it is 'tie', with the last place'
pub data Reason : Type 0 where
  dearer : Reason
  tie : ℕ → Reason

-- what is told of a fork: its state, 1 for exchanged, the least total the other way, how much more that is, and the reason
pub record Cost : Type 0 where
  pub state : ℕ
  pub total : ℕ
  pub more : ℕ
  pub reason : Reason

-- 'the returned order', by the times t
abbrev pub returned : (k : ℕ) (t : ℕ → ℕ → ℕ) → List ℕ
returned k t = wanted k (total t) every

-- 'the fork's state' in an order: that of the set of forks that gives it
abbrev pub state_in : (k : ℕ) (order : List ℕ) (fork : ℕ) → ℕ
state_in k order fork = bit (forks_of k order) fork

-- 'the opposite one': the order wanted among those with the fork in the opposite state, 'chosen among its equals by the same rule from the back'
abbrev pub opposite : (k : ℕ) (t : ℕ → ℕ → ℕ) (fork : ℕ) → List ℕ
opposite k t fork = wanted k (total t) (held fork (1 - state_in k (returned k t) fork))

-- 'the last place at which the returned order and the opposite one part': the last of the first p places at which two orders differ
abbrev pub last_apart : (order other : List ℕ) (p : ℕ) → ℕ
last_apart order other zero = 0
last_apart order other (suc p) = cond (eqb (in_place order p) (in_place other p)) (last_apart order other p) p

-- ''dearer', without a place, exactly if the difference is above 0. Otherwise it is 'tie''
abbrev pub reason_for : (more place : ℕ) → Reason
reason_for more place = cond (eqb more 0) (tie place) dearer

-- what is told of two orders, which have the fork in this state and in the other one
unfoldable pub compared : (k : ℕ) (t : ℕ → ℕ → ℕ) (state : ℕ) (order other : List ℕ) → Cost
compared k t state order other =
    let more = total t other - total t order in
    record { state = state; total = total t other; more = more; reason = reason_for more (last_apart order other (2 ^ k)) }

-- THE COST OF A FORK by the times t
unfoldable pub cost_of : (k : ℕ) (t : ℕ → ℕ → ℕ) (fork : ℕ) → Cost
cost_of k t fork = compared k t (state_in k (returned k t) fork) (returned k t) (opposite k t fork)

-- what an accepted call gives: k, and the cost of its fork
pub record SizedCost : Type 0 where
  pub k : ℕ
  pub cost : Cost

-- 'The lent work space is the planner's and 2n 16-bit numbers more'; 'tests all its lent lengths in the head'
unfoldable pub cost_room : (totals pivots orders k : ℕ) → Outcome Unit
cost_room totals pivots orders k =
    need (leb (2 ^ k + 2 ^ k) totals) wrong_size
    (need (leb (2 ^ k + 2 ^ k) pivots) wrong_size
    (need (leb (2 ^ k + 2 ^ k) orders) wrong_size
    (gives tt)))

-- '14, the fork is not 1 to n−1; tested once the path has been read'
unfoldable pub cost_of_fork : (fork : ℕ) → Path → Outcome SizedCost
cost_of_fork fork p = need (is_fork p.k fork) no_such_fork (gives (record { k = p.k; cost = cost_of p.k (entry_of p.stops) fork }))

-- the cost of a fork of a path, with buffers of these lengths
unfoldable pub fork_cost : (bytes : List ℕ) (highest fork totals pivots orders : ℕ) → Outcome SizedCost
fork_cost bytes highest fork totals pivots orders = and_then (read_path bytes highest (cost_room totals pivots orders)) (cost_of_fork fork)

-- what an answer tells
unfoldable pub told : ForkCost → Cost
told (Dearer exchanged total more) = record { state = state_of exchanged; total = total; more = more; reason = dearer }
told (Tie exchanged total place) = record { state = state_of exchanged; total = total; more = 0; reason = tie place }

-- the promise: the answer, and the lent work space before and after: 'all 0 after success', 2n numbers of each
pub record CostIsGiven (o : Outcome SizedCost) (totals pivots orders totals' pivots' orders' : List ℕ) (r : Result ForkCost Refusal) : Type 0 where
  pub said : giving told (said r) ≡ giving (λ given. given.cost) o
  pub cleared_totals : totals' ≡ after o (λ given. cleared given.k) totals
  pub cleared_pivots : pivots' ≡ after o (λ given. cleared given.k) pivots
  pub cleared_orders : orders' ≡ after o (λ given. cleared given.k) orders

-- the same of the call's parameters
abbrev pub GivesCost : SharedUnsigned → ℕ → ℕ → Unsigned → Unsigned → Unsigned → Result ForkCost Refusal → Type 0
GivesCost bytes highest fork totals pivots orders r =
    CostIsGiven (fork_cost (contents bytes) highest fork (length (at_entry totals)) (length (at_entry pivots)) (length (at_entry orders)))
    (at_entry totals) (at_entry pivots) (at_entry orders) (at_exit totals) (at_exit pivots) (at_exit orders) r
