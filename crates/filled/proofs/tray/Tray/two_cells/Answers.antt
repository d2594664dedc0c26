-- `filled::row::Tray::two_cells` meets its contract.
use mathlib.Core.Path.{◌≡◌, sym, ◌∙◌}
use Prim.Native.Nat.{◌≤◌, ◌<◌}
use native.Mathlib.Omega.{arith}
use Rattle.tree.specs.Neighbour.{reach}
use Rattle.tree.proofs.Beside.{reach_of-pos}
use Rattle.orders.proofs.Shift.{reach-pos}
use Rattle.filled.proofs.Made.{made-row, rows-fewer, cells-crossed, cells-kept, cells-weighed, cells-skipped}
use Rattle.filled.proofs.Recurrence.{reach-le}
use Rattle.filled.proofs.tray.Tray.two_cells.Goals as goal
use Rattle.filled.proofs.tray.Tray.two_cells.Goals.{After-reach}

-- the place's reach
back : (c : After-reach) → c.reach.result ≡ reach c.args.p
back c = c.reach.ensures ∙ reach_of-pos c.args.p c.requires.inside.0

pub crossed-requires : goal.crossed-requires
crossed-requires c = (made-row _ _ _ c.row-before.ensures (omega (arith, c.requires.inside.1)), c.requires.inside.2)

pub weighed-requires-clause-row : goal.weighed-requires-clause-row
weighed-requires-clause-row c = made-row _ _ _ c.row-before.ensures (omega (arith, c.requires.inside.1))

pub returns-then-both_filled : goal.returns-then-both_filled
returns-then-both_filled c =
    let all = cells-crossed _ _ _ c.row-before.ensures c.requires.inside.0 c.requires.inside.1 _ c.requires.inside.2 c.requires.inside.3 _ _ c.crossed.ensures.one_value c.crossed.ensures.other_value
    c.if-p-eq1.true (sym c.both_filled.ensures ∙ c.if-both_filled.true) in record { one_value = all.0; other_value = all.1 }

pub returns-then-p-eq1 : goal.returns-then-p-eq1
returns-then-p-eq1 c =
    let all = cells-kept _ _ _ c.row-before.ensures c.requires.inside.0 c.requires.inside.1 _ c.requires.inside.2 c.requires.inside.3 _ _ c.pair_at.ensures.0 c.pair_at.ensures.1
    c.if-p-eq1.true (sym c.both_filled.ensures ∙ c.if-both_filled.false) in record { one_value = all.0; other_value = all.1 }

pub returns-then-beside_filled : goal.returns-then-beside_filled
returns-then-beside_filled c =
    let all = cells-weighed _ _ _ c.row-before.ensures c.requires.inside.0 c.requires.inside.1 _ c.requires.inside.2 c.requires.inside.3 _ _ c.weighed.ensures.one_value c.weighed.ensures.other_value
    c.if-p-eq1.false (sym c.beside_filled.ensures ∙ c.if-beside_filled.true) in record { one_value = all.0; other_value = all.1 }

pub overflow_sub-p-2 : goal.overflow_sub-p-2
overflow_sub-p-2 c = omega (arith, back (goal.at.overflow_sub-p-2 c).After-reach, reach-le c.args.p c.requires.inside.0)

pub row-requires : goal.row-requires
row-requires c =
    let far = back (goal.at.row-requires c).After-reach in
    let some : 0 < reach c.args.p = reach-pos c.args.p in
    let fits : reach c.args.p ≤ c.args.p = reach-le c.args.p c.requires.inside.0 in
    (rows-fewer _ _ _ _ c.requires.made (omega (arith, far, some, fits)), omega (arith, far, some, fits, c.requires.inside.1))

pub returns : goal.returns
returns c =
    let all = cells-skipped _ _ _ c.row-before.ensures c.requires.inside.0 c.requires.inside.1 _ c.requires.inside.2 c.requires.inside.3 _ _ _ _ c.row.ensures c.pair_at-2.ensures.0 c.pair_at-2.ensures.1
    (back (goal.at.returns c).After-reach) c.if-p-eq1.false (sym c.beside_filled.ensures ∙ c.if-beside_filled.false) in record { one_value = all.0; other_value = all.1 }
