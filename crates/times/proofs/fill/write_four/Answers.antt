-- `times::fill::write_four` meets its contract: the columns up to `to` are written, and then the diagonal.
use mathlib.Core.Path.{◌≡◌, ◌∙◌}
use Prim.Native.Nat.{ℕ, ◌+◌, ◌*◌, ◌≤◌}
use native.Mathlib.Omega.{arith}
use lib.ListN.{length}
use Rattle.base.specs.Lists.{tabulate}
use Rattle.stop.specs.declared.Stop.{Stop}
use Rattle.times.specs.Time.{time}
use Rattle.times.specs.Table.{entry_of}
use Rattle.times.proofs.Columns.{column_again, diagonal-rows, rows_none, rows-whole}
use Rattle.times.proofs.Entries.{AreFour, four-moves, entry-same, entry-moved}
use Rattle.times.proofs.fill.write_four.Goals as goal

pub loop-to-init : goal.loop-to-init
loop-to-init g c = rows_none _ _ _ _ _

pub loop-to-preserved : goal.loop-to-preserved
loop-to-preserved g c =
    let stops : ℕ → Stop = g.S.StopSource.stop_at c.args.stops.now.source in
    let moved : ℕ → ℕ → ℕ = λ r j. time (stops (c.args.from + r)) (stops j) in
    let four : AreFour stops c.args.from c.stop.result c.stop-2.result c.stop-3.result c.stop-4.result = record { first = c.stop.ensures.is; second = c.stop-2.ensures.is; third = c.stop-3.ensures.is; fourth = c.stop-4.ensures.is } in
    column_again c.args.block.now 0 c.args.stops.now.count moved c.loop-to.to _ 4 _ _ c.loop-to-test.true (omega arith)
    (four-moves stops c.args.from _ _ _ _ four c.loop-to.to _ c.stop-in-loop-to.ensures.is)
    c.loop-to.invariant c.write_column.ensures

pub returns : goal.returns
returns g c =
    let stops : ℕ → Stop = g.S.StopSource.stop_at c.args.stops.now.source in
    let moved : ℕ → ℕ → ℕ = λ r j. time (stops (c.args.from + r)) (stops j) in
    let entries : ℕ → ℕ → ℕ = λ r. entry_of (tabulate c.args.stops.now.count stops) (c.args.from + r) in
    let end : c.loop-to.to ≡ c.args.stops.now.count = omega arith in
    let whole = rw end at c.loop-to.invariant in
    let room : 0 + 4 * c.args.stops.now.count ≤ length c.args.block.now = omega arith in
    diagonal-rows c.args.block.now 0 c.args.stops.now.count c.args.from moved entries 4 _ _ c.requires.0 room
    (λ r b. entry-same c.args.stops.now.count stops (c.args.from + r))
    (λ r j b x y. entry-moved c.args.stops.now.count stops (c.args.from + r) j (omega (arith, c.requires.0)) x y)
    whole c.write_diagonal.ensures
    ∙ rows-whole c.args.block.now c.args.stops.now.count entries 4 c.requires.1
