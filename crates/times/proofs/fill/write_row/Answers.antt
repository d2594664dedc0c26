-- `times::fill::write_row` meets its contract: entry after entry.
use Prim.Native.Nat.{ℕ, ◌<◌}
use native.Mathlib.Omega.{arith}
use Rattle.base.specs.Lists.{tabulate}
use Rattle.base.proofs.Lists.{tabulate-more}
use Rattle.stop.specs.declared.Stop.{Stop}
use Rattle.times.specs.Table.{entry_of}
use Rattle.times.proofs.Table.{source-entry}
use Rattle.times.proofs.fill.write_row.Goals as goal

pub loop-to-preserved : goal.loop-to-preserved
loop-to-preserved g c =
    let stops : ℕ → Stop = g.S.StopSource.stop_at c.args.stops.now.source in
    let here : c.loop-to.to < c.args.stops.now.count = omega arith in
    let next = source-entry c.args.stops.now.count stops c.args.from c.loop-to.to _ _ _ c.requires.0 here c.stop-here.ensures.is c.stop.ensures.is c.time_between.ensures in
    rw (c.loop-to.invariant, next)
    (tabulate-more c.loop-to.to (entry_of (tabulate c.args.stops.now.count stops) c.args.from) c.args.row.now 0 c.loop-to-test.true)
