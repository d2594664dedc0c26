-- `times::column::write_column` meets its contract: place after place.
use mathlib.Core.Path.{◌≡◌, ap, ◌∙◌}
use Prim.Native.Nat.{◌+◌, ◌*◌, ◌<◌}
use native.Mathlib.Omega.{arith}
use lib.ListN.{length}
use Rattle.std.proofs.lemmas.List.{get_or_default}
use Rattle.stop.specs.declared.Stop.{Stop}
use Rattle.stop.specs.Stop.{zero_stop}
use Rattle.times.specs.Columns.{times_from}
use Rattle.times.specs.Time.{time}
use Rattle.times.proofs.Columns.{each_none, each_more}
use Rattle.times.proofs.column.write_column.Goals as goal

pub loop-r-init : goal.loop-r-init
loop-r-init c = each_none _ _ _

pub loop-r-preserved : goal.loop-r-preserved
loop-r-preserved c =
    let here : c.loop-r.r < length c.args.four = omega (arith, c.loop-r-test.true, c.requires.four_in_range.0.count) in
    let from = get_or_default c.args.four c.loop-r.r _ zero_stop here in
    let r = c.loop-r.r in
    let place : r * c.args.n + c.args.to ≡ 0 + r * c.args.n + c.args.to = omega arith in
    rw place (each_more _ _ (times_from c.args.four c.args.stop) c.loop-r.r _ _ c.loop-r.invariant (c.time.ensures ∙ ap (λ (s : Stop). time s c.args.stop) from))
