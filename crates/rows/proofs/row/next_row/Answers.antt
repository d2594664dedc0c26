-- `rows::row::next_row` meets its contract. The loop's invariant: the stops before i, a multiple of 4, have theirs in the even row, the odd row is
-- as it was, and 2^t candidates were weighed for each stop.
use mathlib.Core.Logic.{inr}
use native.Mathlib.Omega.{arith}
use Rattle.rows.proofs.Made.{made_columns, made_all}
use Rattle.rows.proofs.row.next_row.Goals as goal

pub loop-i-preserved : goal.loop-i-preserved
loop-i-preserved g c =
    let n = c.requires.place_lt_n in
    let inv = c.loop-i.invariant in
    (omega (arith, inv.0), made_columns (inr (omega (arith, n.4))) n.5 (omega (arith, n)) inv.1 c.four_columns-count.ensures)

pub returns-2 : goal.returns-2
returns-2 g c =
    let n = c.requires.place_lt_n in
    made_all (omega arith) (made_columns (inr (omega (arith, n.4))) n.5 (omega (arith, n)) c.loop-i.invariant.1 c.four_columns-count.ensures)
