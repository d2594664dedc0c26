-- `planner::judge_lengths` meets its contract: where no test refuses, every length will do.
use mathlib.Core.Path.{◌≡◌, ◌∙◌}
use Prim.Native.Nat.{◌^◌}
use borrow.Author.Tests.{le-leb, eq-eqb}
use Rattle.base.proofs.Size.{stop_count-pow}
use Rattle.planner.specs.Plan.{plan_room, plan_fits}
use Rattle.planner.proofs.judge_lengths.Goals as goal

pub returns : goal.returns
unfolding plan_room plan_fits
returns c =
    let count : c.stop_count-n.result ≡ 2 ^ c.args.k = c.stop_count-n.ensures ∙ stop_count-pow _ c.if-k-gt-MAX_K.false in
    rw (le-leb _ _ c.if-k-gt-MAX_K.false, ← count, eq-eqb _ _ c.if-table-n.false, le-leb _ _ c.if-order-n.false, le-leb _ _ c.if-totals-n.false, le-leb _ _ c.if-pivots-n.false)
