-- `filled::plan_filled` meets its contract: everything is judged before a number is written.
use mathlib.Core.Path.{sym}
use native.Mathlib.Omega.{arith}
use lib.ListN.{length}
use lib.Seq.{length-take-le}
use Rattle.filled.proofs.Judged.{Counted, room-counted, made-inside, plans-done}
use Rattle.filled.proofs.plan_filled.Goals as goal
use Rattle.filled.proofs.plan_filled.Goals.{After-stop_count-n}

-- the lengths fit
fits : (c : After-stop_count-n) → let a = c.args in Counted a.k c.stop_count-n.result (length a.table.now) a.empties.now (length a.list.now) (length a.bits.now) (length a.work.now)
fits c = room-counted _ _ c.args.empties.now _ _ _ _ c.stop_count-n.ensures c.in_ok-judge.ensures

pub slice_bounds-filled_set-end : goal.slice_bounds-filled_set-end
slice_bounds-filled_set-end c =
    let f = fits (goal.at.slice_bounds-filled_set-end c).After-stop_count-n in
    sym (length-take-le _ c.args.empties.now f.bytes)

pub filled_set-requires : goal.filled_set-requires
filled_set-requires c =
    let f = fits (goal.at.filled_set-requires c).After-stop_count-n in
    omega (arith, f.few, length-take-le c.stop_count-n.result c.args.empties.now f.bytes)

pub invariant_of-tray : goal.invariant_of-tray
invariant_of-tray c =
    let f = fits (goal.at.invariant_of-tray c).After-stop_count-n in
    record {
      small = f.small;
      stops = f.stops;
      inside = made-inside _ _ _ _ c.filled_set.ensures (length-take-le _ c.args.empties.now f.bytes);
      square = f.square;
      times = λ a. (c.type_inv.table a).fits;
    }

pub slice_bounds-run-end : goal.slice_bounds-run-end
slice_bounds-run-end c =
    let f = fits (goal.at.slice_bounds-run-end c).After-stop_count-n in
    f.rows

pub slice_bounds-run-end-2 : goal.slice_bounds-run-end-2
slice_bounds-run-end-2 c =
    let f = fits (goal.at.slice_bounds-run-end-2 c).After-stop_count-n in
    sym (length-take-le _ c.args.work.now f.rows)

pub run-requires : goal.run-requires
run-requires c =
    let f = fits (goal.at.run-requires c).After-stop_count-n in
    record { work = length-take-le _ c.args.work.now f.rows; buffers = (f.places, f.string) }

pub returns : goal.returns
returns c =
    let f = fits (goal.at.returns c).After-stop_count-n in
    plans-done _ c.args.empties.now c.args.list.now c.args.bits.now c.args.work.now _ _ _ _ _ c.in_ok-judge.ensures c.filled_set.ensures
    (length-take-le _ c.args.empties.now f.bytes) c.run.ensures
