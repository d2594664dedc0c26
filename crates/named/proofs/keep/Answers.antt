-- `named::keep` meets its contract: the path, the screen's records and the name, then what is kept.
use mathlib.Core.Path.{◌∙◌}
use Rattle.std.proofs.lemmas.Result.{err_from_is_err_and}
use Rattle.base.proofs.Outcome.{done-good, done-refused}
use Rattle.screen.proofs.Screen.{good-path, bad-path}
use Rattle.named.specs.Calls.{shown_in, kept_in}
use Rattle.named.proofs.Names.{room-agrees, keep-judged}
use Rattle.named.proofs.Keeping.{by-path, fits, keep-bad-path, keep-refuses, keep-by-bytes, keep-made}
use Rattle.named.proofs.keep.Goals as goal

pub returns-in_err-path : goal.returns-in_err-path
returns-in_err-path c =
    let a = c.args in
    let shown = shown_in a.order.now a.sums.now in
    let kept = kept_in a.marks.now a.stops.now a.kept.now in
    let p = err_from_is_err_and c.from_residual.result c.from_residual.ensures.1 in
    rw (p.1, p.2) (keep-refuses _ _ _ shown kept _ (keep-bad-path _ _ _ shown kept _ (bad-path _ _ _ _ (room-agrees _ _ _ _ _) _ c.places-lent.ensures _ c.in_err-path.ensures.path)))

pub returns-in_err-judge_keep : goal.returns-in_err-judge_keep
returns-in_err-judge_keep c =
    let a = c.args in
    let shown = shown_in a.order.now a.sums.now in
    let kept = kept_in a.marks.now a.stops.now a.kept.now in
    let e = c.in_ok-path.ensures in
    let passed = by-path _ _ a.name shown kept _ (good-path _ _ _ _ (room-agrees _ _ _ _ _) _ c.places-lent.ensures c.in_ok-path.path e.path e.same) in
    let p = err_from_is_err_and c.from_residual-in_err-judge_keep.result c.from_residual-in_err-judge_keep.ensures.1 in
    rw (p.1, p.2) (keep-refuses _ _ _ shown kept _ (keep-by-bytes _ _ _ shown kept _ _ _ _ passed ∙ done-refused _ _ c.in_err-judge_keep.ensures))

pub keep_under-requires : goal.keep_under-requires
keep_under-requires c =
    let a = c.args in
    let shown = shown_in a.order.now a.sums.now in
    let kept = kept_in a.marks.now a.stops.now a.kept.now in
    let e = c.in_ok-path.ensures in
    let passed = by-path _ _ a.name shown kept _ (good-path _ _ _ _ (room-agrees _ _ _ _ _) _ c.places-lent.ensures c.in_ok-path.path e.path e.same) in
    let f = fits _ _ _ shown kept _ _ _ _ passed in
    let j = keep-judged _ _ _ _ _ (done-good _ c.in_ok-judge_keep.ensures) in
    (passed.small, j.1, j.2, f.long_order, f.long_sums, f.long_marks, f.long_stops, f.long_kept)

pub returns : goal.returns
returns c =
    let a = c.args in
    let shown = shown_in a.order.now a.sums.now in
    let kept = kept_in a.marks.now a.stops.now a.kept.now in
    let e = c.in_ok-path.ensures in
    let passed = by-path _ _ a.name shown kept _ (good-path _ _ _ _ (room-agrees _ _ _ _ _) _ c.places-lent.ensures c.in_ok-path.path e.path e.same) in
    let j = keep-judged _ _ _ _ _ (done-good _ c.in_ok-judge_keep.ensures) in
    let w = c.keep_under.ensures in
    keep-made _ _ _ shown kept _ _ _ _ passed (kept_in _ _ _) j.0 j.1 j.2 w.0 w.1 w.2
