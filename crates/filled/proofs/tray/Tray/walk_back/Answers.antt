-- `filled::walk::Tray::walk_back` meets its contract. The loop's invariant: the list is written from the stop on that the walk has come to.
use Prim.Native.Nat.{◌<◌}
use native.Mathlib.Omega.{arith}
use Rattle.filled.specs.Row.{times_of}
use Rattle.filled.proofs.Walked.{Next, walking-place, walking-step}
use Rattle.filled.proofs.tray.Tray.walk_back.Goals as goal
use Rattle.filled.proofs.tray.Tray.walk_back.Goals.{After-land-q, After-stop_before-i}

-- the walk does not land on place 0, since the stop has the same cell there
landed : (c : After-land-q) → 0 < c.land-q.result
landed c =
    let t = c.args.self.now in
    let l = c.loop-at in
    walking-place t _ _ l.p l.i l.at _ l.invariant c.loop-at-test.true (c.land-q.ensures.same (times_of t))

-- so there is a stop before
next : (c : After-stop_before-i) → let l = c.loop-at in Next c.args.self.now c.args.list.now l.list c.land-q.result c.stop_before-i.result l.at
next c =
    let t = c.args.self.now in
    let l = c.loop-at in
    let land = c.land-q.ensures in
    let same = land.same (times_of t) in
    walking-step t _ _ l.p l.i l.at _ l.invariant c.loop-at-test.true same land.low (land.beside (walking-place t _ _ l.p l.i l.at _ l.invariant c.loop-at-test.true same)) _ c.stop_before-i.ensures

pub stop_before-i-requires : goal.stop_before-i-requires
stop_before-i-requires c =
    let some = landed (goal.at.stop_before-i-requires c).After-land-q in
    let r = c.loop-at.invariant.reached in record { made = c.requires.made; inside = (some, omega (arith, c.land-q.ensures.low, r.place), r.stop); beside = c.land-q.ensures.beside some }

pub overflow_sub-p-in-loop-at : goal.overflow_sub-p-in-loop-at
overflow_sub-p-in-loop-at c = omega (arith, landed (goal.at.overflow_sub-p-in-loop-at c).After-land-q)

pub put-requires : goal.put-requires
put-requires c = let n = next (goal.at.put-requires c).After-stop_before-i in (n.room, n.stop)

pub loop-at-preserved : goal.loop-at-preserved
loop-at-preserved c = (next (goal.at.loop-at-preserved c).After-stop_before-i).more _ c.put.ensures
