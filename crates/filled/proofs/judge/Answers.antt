-- `filled::judge` meets its contract: the lengths are judged first, then the bytes.
use mathlib.Core.Path.{◌≡◌, sym, ap, ◌∙◌}
use lib.Seq.{length-take-le}
use Rattle.std.proofs.Common.{Err, rules}
use Rattle.base.specs.Outcome.{said}
use Rattle.filled.proofs.Judged.{lengths-counted, lengths-refused, flags-decide}
use Rattle.filled.proofs.judge.Goals as goal

pub returns-in_err-judge_lengths : goal.returns-in_err-judge_lengths
returns-in_err-judge_lengths c =
    let handed : c.from_residual.result ≡ Err c.in_err-judge_lengths.field-0.0 = search rules in
    ap said handed ∙ lengths-refused _ _ c.args.empties.now _ _ _ _ c.in_err-judge_lengths.ensures

pub slice_bounds-are_flags-end : goal.slice_bounds-are_flags-end
slice_bounds-are_flags-end c =
    sym (length-take-le _ c.args.empties.now (lengths-counted _ _ c.args.empties.now _ _ _ _ c.stop_count.ensures c.in_ok-judge_lengths.ensures).bytes)

pub returns-then-are_flags : goal.returns-then-are_flags
returns-then-are_flags c = flags-decide _ _ c.args.empties.now _ _ _ _ c.stop_count.ensures c.in_ok-judge_lengths.ensures _ c.if-are_flags.ensures

pub returns-else-are_flags : goal.returns-else-are_flags
returns-else-are_flags c = flags-decide _ _ c.args.empties.now _ _ _ _ c.stop_count.ensures c.in_ok-judge_lengths.ensures _ c.if-are_flags.ensures
