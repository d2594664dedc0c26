-- A run of the three calls by anybody: 'any path bytes are read, the table is made with the path's k from all the stops that this reading
-- left, the planner is called with that k on that table, and nobody else writes the buffers in between. Where all three accept ..'
use Rattle.std.specs.Prelude.{List, ℕ, length, Ok}
use Rattle.stop.specs.Lent.{LentStops}
use Rattle.path.specs.Reading.{PathIsRead}
use Rattle.times.specs.Table.{make_table, TableIsMade}
use Rattle.planner.specs.Plan.{plan_order, OrderIsPlanned}

-- the three promises, with the buffers that one call left handed to the next, and all three answers accepting
pub record AcceptedRun (bytes : List ℕ) (highest version k : ℕ) (order' : List ℕ) (total : ℕ) : Type 0 where
  -- the stops' buffers that are lent to the reading, and what it leaves in them
  pub lent : LentStops
  pub lent' : LentStops
  pub reading : PathIsRead bytes highest lent lent' (Ok (record { version = version; k = k }))
  -- the table before and after it is made from those stops
  pub table : List ℕ
  pub table' : List ℕ
  pub making : TableIsMade (make_table k lent' (length table)) table table' (Ok tt)
  -- what is lent to the planner beside that table, and what it leaves
  pub order : List ℕ
  pub totals : List ℕ
  pub pivots : List ℕ
  pub totals' : List ℕ
  pub pivots' : List ℕ
  pub weighings : ℕ
  pub planning : OrderIsPlanned k (plan_order k table' (length order) (length totals) (length pivots)) order totals pivots order' totals' pivots' (Ok (record { total = total; weighings = weighings }))
