-- Accepted calls, by their promises: what is compared of two of them is the table or the path, the order that is left and the total that is answered.
-- What else was lent, and what it held, is nobody's concern.
use Rattle.std.specs.Prelude.{List, ℕ, length, Ok}
use Rattle.planner.specs.Plan.{plan_order, OrderIsPlanned}
use Rattle.planner.specs.Places.{plan_places, OrderIsWritten}
use Rattle.planner.specs.Tour.{plan_tour}
use Rattle.path_plan.specs.PathPlan.{plan_path, PathIsPlanned}

-- what a call was lent beside its tables, and what it left in the work space
pub record Buffers : Type 0 where
  pub order : List ℕ
  pub totals : List ℕ
  pub pivots : List ℕ
  pub totals' : List ℕ
  pub pivots' : List ℕ

-- `planner::plan` by a table has left an order and answered a total
pub record Planned (k : ℕ) (table order' : List ℕ) (c : ℕ) : Type 0 where
  pub lent : Buffers
  pub weighings : ℕ
  pub promise : OrderIsPlanned k (plan_order k table (length lent.order) (length lent.totals) (length lent.pivots))
      lent.order lent.totals lent.pivots order' lent.totals' lent.pivots' (Ok (record { total = c; weighings = weighings }))

-- `planner::tour` has
pub record Toured (k : ℕ) (table order' : List ℕ) (c : ℕ) : Type 0 where
  pub lent : Buffers
  pub promise : OrderIsWritten k (plan_tour k table (length lent.order) (length lent.totals) (length lent.pivots))
      lent.order lent.totals lent.pivots order' lent.totals' lent.pivots' (Ok c)

-- `planner::plan_places` by two tables has
pub record Placed (k : ℕ) (table places order' : List ℕ) (c : ℕ) : Type 0 where
  pub lent : Buffers
  pub promise : OrderIsWritten k (plan_places k table places (length lent.order) (length lent.totals) (length lent.pivots))
      lent.order lent.totals lent.pivots order' lent.totals' lent.pivots' (Ok c)

-- `path_plan::plan_path` for path bytes has, by a caller that knows versions up to `highest`; it makes the table in a lent buffer
pub record PlannedPath (bytes : List ℕ) (highest k : ℕ) (order' : List ℕ) (c : ℕ) : Type 0 where
  pub lent : Buffers
  pub table : List ℕ
  pub table' : List ℕ
  pub version : ℕ
  pub promise : PathIsPlanned bytes highest (plan_path bytes highest (length table) (length lent.order) (length lent.totals) (length lent.pivots))
      table lent.order lent.totals lent.pivots table' order' lent.totals' lent.pivots' (Ok (record { version = version; k = k; total = c }))
