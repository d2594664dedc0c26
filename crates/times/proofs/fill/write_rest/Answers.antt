-- `times::fill::write_rest` meets its contract: row after row, if those before were written.
use Prim.Native.Nat.{ℕ}
use Rattle.base.specs.Lists.{tabulate}
use Rattle.times.specs.Table.{entry_of}
use Rattle.times.proofs.Written.{filled_row}
use Rattle.times.proofs.fill.write_rest.Goals as goal

pub loop-from-preserved : goal.loop-from-preserved
loop-from-preserved g c =
    let entries : ℕ → ℕ → ℕ = entry_of (tabulate c.args.stops.now.count (g.S.StopSource.stop_at c.args.stops.now.source)) in
    λ t e. filled_row t c.args.stops.now.count entries c.loop-from.from c.loop-from.table _ (c.loop-from.invariant t e) c.write_row.ensures
