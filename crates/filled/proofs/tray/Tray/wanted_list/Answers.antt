-- `filled::walk::Tray::wanted_list` meets its contract.
use mathlib.Core.Path.{◌≡◌, sym, ◌∙◌}
use Prim.Native.Nat.{◌-◌, ◌<◌}
use native.Mathlib.Omega.{arith}
use lib.ListN.{length, get_or}
use Rattle.tree.specs.Total.{total}
use Rattle.tree.specs.Wanted.{backward}
use Rattle.filled.specs.Row.{times_of}
use Rattle.filled.specs.Walk.{wanted_of}
use Rattle.filled.proofs.Walked.{none-wanted, last-held, walking_start, count-is, over_last}
use Rattle.filled.proofs.tray.Tray.wanted_list.Goals as goal
use Rattle.filled.proofs.tray.Tray.wanted_list.Goals.{After-last_stop-last}

-- what is held is the wanted list's total and its last stop
held : (c : After-last_stop-last) → let t = c.args.self.now in let r = c.last_stop-last.result in (r.total ≡ total (times_of t) (wanted_of t)) × (r.stop ≡ get_or (backward (wanted_of t)) 0 0) × (r.stop < 64)
held c = last-held c.args.self.now _ _ _ _ (omega (arith, c.if-count-eq0.false, c.requires.count.0)) c.row.ensures.long c.last_stop-last.ensures c.row.ensures

pub returns-then-count-eq0 : goal.returns-then-count-eq0
returns-then-count-eq0 c =
    let e = none-wanted c.args.self.now (sym c.requires.count.0 ∙ c.if-count-eq0.true) in record { value = e.0; list_after = e.1 c.args.list.now }

pub put-requires : goal.put-requires
put-requires c = (omega (arith, c.if-count-eq0.false, c.requires.count.1), (held (goal.at.put-requires c).After-last_stop-last).2)

pub walk_back-requires : goal.walk_back-requires
walk_back-requires c =
    let t = c.args.self.now in
    record {
      made = c.make_rows.ensures;
      walking = walking_start t c.args.list.now _ _ _ c.requires.count.0 (omega (arith, c.if-count-eq0.false)) c.requires.count.1 (held (goal.at.walk_back-requires c).After-last_stop-last).1 c.put.ensures;
    }

pub returns : goal.returns
returns c =
    let t = c.args.self.now in
    let inside : c.args.count - 1 < length (wanted_of t) = omega (arith, c.if-count-eq0.false, c.requires.count.0, count-is t) in
    record {
      value = (held (goal.at.returns c).After-last_stop-last).0;
      list_after = over_last t c.args.list.now _ _ _ _ c.walk_back.ensures inside c.put.ensures;
    }
