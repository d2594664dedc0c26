-- `times::fill::write_fours` meets its contract: four rows after four rows.
use mathlib.Core.Path.{◌≡◌}
use Prim.Native.Nat.{ℕ, ◌+◌, ◌*◌}
use native.Mathlib.Omega.{arith}
use Rattle.base.specs.Lists.{tabulate}
use Rattle.times.specs.Table.{entry_of}
use Rattle.times.proofs.Written.{filled_part}
use Rattle.times.proofs.fill.write_fours.Goals as goal

pub loop-four-preserved : goal.loop-four-preserved
loop-four-preserved g c =
    let entries : ℕ → ℕ → ℕ = entry_of (tabulate c.args.stops.now.count (g.S.StopSource.stop_at c.args.stops.now.source)) in
    let next : 4 * (c.loop-four.four + 1) ≡ 4 * c.loop-four.four + 4 = omega arith in
    rw next (filled_part c.args.table.now c.args.stops.now.count entries (4 * c.loop-four.four) 4 c.loop-four.table _ c.loop-four.invariant c.write_four.ensures)
