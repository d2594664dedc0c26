-- A call that plans a path: what it answers, and what it leaves in the lent buffers.
use Rattle.std.specs.Prelude.{◌≡◌, List, ℕ, ◌^◌, length, take, Result, Ok}
use Rattle.base.specs.declared.Refusal.{Refusal}
use Rattle.base.specs.Outcome.{Outcome, giving, said, after}
use Rattle.base.specs.Buffer.{Unsigned, SharedUnsigned, at_entry, at_exit, contents}
use Rattle.path.specs.Path.{Path, read_path}
use Rattle.times.specs.Table.{entry_of, table_of}
use Rattle.tree.specs.Total.{total}
use Rattle.tree.specs.Open.{wanted}
use Rattle.planner.specs.Plan.{plan_room, cleared}
pub use Rattle.path_plan.specs.declared.PathPlanned.{PathPlanned}
use Rattle.path_plan.specs.Claim.{ShortestFor}

-- the order that is wanted by the travel times of a path's stops, and its total
abbrev pub wanted_order : Path → List ℕ
wanted_order p = wanted p.k (entry_of p.stops)

abbrev pub wanted_total : Path → ℕ
wanted_total p = total (entry_of p.stops) (wanted_order p)

-- the values of an answer
abbrev pub planned_for : Path → PathPlanned
planned_for p = record { version = p.version; k = p.k; total = wanted_total p }

-- planning a path with buffers of these lengths: 'all its lent lengths in the head', a table of n², an order of n and the planner's work space
abbrev pub plan_path : (bytes : List ℕ) (highest table order totals pivots : ℕ) → Outcome Path
plan_path bytes highest table order totals pivots = read_path bytes highest (λ k. plan_room k table order totals pivots)

-- the promise: the answer, and each lent buffer before and after; `claim` is demand 3, whole
pub record PathIsPlanned (bytes : List ℕ) (highest : ℕ) (o : Outcome Path) (table order totals pivots table' order' totals' pivots' : List ℕ) (r : Result PathPlanned Refusal) : Type 0 where
  pub said : said r ≡ giving planned_for o
  pub timed : table' ≡ after o (λ p. table_of p.stops) table
  pub wrote : order' ≡ after o wanted_order order
  pub cleared_totals : totals' ≡ after o (λ p. cleared p.k) totals
  pub cleared_pivots : pivots' ≡ after o (λ p. cleared p.k) pivots
  pub claim : (p : PathPlanned) → r ≡ Ok p → ShortestFor bytes highest p.k (take (2 ^ p.k) order') p.total

-- the same of the call's parameters
abbrev pub PlansPath : SharedUnsigned → ℕ → Unsigned → Unsigned → Unsigned → Unsigned → Result PathPlanned Refusal → Type 0
PlansPath bytes highest table order totals pivots r =
    PathIsPlanned (contents bytes) highest
    (plan_path (contents bytes) highest (length (at_entry table)) (length (at_entry order)) (length (at_entry totals)) (length (at_entry pivots)))
    (at_entry table) (at_entry order) (at_entry totals) (at_entry pivots) (at_exit table) (at_exit order) (at_exit totals) (at_exit pivots) r
