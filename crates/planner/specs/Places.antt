-- M-107: planning where places cost extra. And what a call answers that gives an order's total alone.
use Rattle.std.specs.Prelude.{List, ℕ, ◌*◌, ◌^◌, eqb, length, Result}
use Rattle.base.specs.declared.Refusal.{Refusal}
use Rattle.base.specs.Refusal.{wrong_size}
use Rattle.base.specs.Outcome.{Outcome, gives, and_then, need, giving}
use Rattle.base.specs.Buffer.{Unsigned, SharedUnsigned, at_entry, at_exit, contents}
use Rattle.tree.specs.Total.{entry}
use Rattle.tree.specs.Wanted.{wanted, every}
use Rattle.costs.specs.Costs.{placed_total}
use Rattle.planner.specs.Plan.{Plan, plan_room, PlanIsWritten}

-- whether buffers of these lengths will do: the planner's tests, and 'A second table of another length is 8'
unfoldable pub places_room : (k table places order totals pivots : ℕ) → Outcome Unit
places_room k table places order totals pivots =
    and_then (plan_room k table order totals pivots) (λ room. need (eqb places (2 ^ k * 2 ^ k)) wrong_size (gives tt))

-- 'Optimality, with its rule for equals, is wanted for this sum': the order that is wanted by the times of a table of n = 2^k rows and by a second
-- one, 'row stop, column place', and its total with the places
abbrev pub placed_plan : ℕ → List ℕ → List ℕ → Plan
placed_plan k table places =
    let cost = placed_total (entry (2 ^ k) table) (entry (2 ^ k) places) in
    record { order = wanted k cost every; total = cost (wanted k cost every) }

-- planning by both tables, with buffers of these lengths
abbrev pub plan_places : (k : ℕ) (table places : List ℕ) (order totals pivots : ℕ) → Outcome Plan
plan_places k table places order totals pivots = giving (λ room. placed_plan k table places) (places_room k (length table) (length places) order totals pivots)

-- the promise of a call that writes the order of an outcome, and answers its total
abbrev pub OrderIsWritten : ℕ → Outcome Plan → (order totals pivots order' totals' pivots' : List ℕ) → Result ℕ Refusal → Type 0
OrderIsWritten = PlanIsWritten (λ p. p.total)

-- the same of the call's parameters
abbrev pub PlansPlaces : ℕ → SharedUnsigned → SharedUnsigned → Unsigned → Unsigned → Unsigned → Result ℕ Refusal → Type 0
PlansPlaces k table places order totals pivots r =
    OrderIsWritten k (plan_places k (contents table) (contents places) (length (at_entry order)) (length (at_entry totals)) (length (at_entry pivots)))
    (at_entry order) (at_entry totals) (at_entry pivots) (at_exit order) (at_exit totals) (at_exit pivots) r
