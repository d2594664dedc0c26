-- `named::come_back` meets its contract: the path, the screen's records, the name and what was kept, then the way back.
use mathlib.Core.Path.{◌∙◌}
use Rattle.std.proofs.lemmas.Result.{err_from_is_err_and}
use Rattle.base.proofs.Outcome.{done-good, done-refused}
use Rattle.screen.proofs.Screen.{good-path, bad-path}
use Rattle.named.specs.Calls.{shown_in, kept_in}
use Rattle.named.proofs.Names.{room-agrees, back-judged}
use Rattle.named.proofs.Keeping.{by-path, fits, back-bad-path, back-refuses, back-by-bytes, back-made}
use Rattle.named.proofs.come_back.Goals as goal

pub returns-in_err-path : goal.returns-in_err-path
returns-in_err-path c =
    let a = c.args in
    let shown = shown_in a.order.now a.sums.now in
    let kept = kept_in a.marks.now a.stops.now a.kept.now in
    let p = err_from_is_err_and c.from_residual.result c.from_residual.ensures.1 in
    rw (p.1, p.2) (back-refuses _ _ _ shown kept _ (back-bad-path _ _ _ shown kept _ (bad-path _ _ _ _ (room-agrees _ _ _ _ _) _ c.places-lent.ensures _ c.in_err-path.ensures.path)))

pub judge_back-requires : goal.judge_back-requires
judge_back-requires c =
    let a = c.args in
    let shown = shown_in a.order.now a.sums.now in
    let kept = kept_in a.marks.now a.stops.now a.kept.now in
    let e = c.in_ok-path.ensures in
    let passed = by-path _ _ a.name shown kept _ (good-path _ _ _ _ (room-agrees _ _ _ _ _) _ c.places-lent.ensures c.in_ok-path.path e.path e.same) in
    let f = fits _ _ _ shown kept _ _ _ _ passed in
    (passed.small, f.long_marks, f.long_stops, f.long_kept)

pub returns-in_err-judge_back : goal.returns-in_err-judge_back
returns-in_err-judge_back c =
    let a = c.args in
    let shown = shown_in a.order.now a.sums.now in
    let kept = kept_in a.marks.now a.stops.now a.kept.now in
    let e = c.in_ok-path.ensures in
    let passed = by-path _ _ a.name shown kept _ (good-path _ _ _ _ (room-agrees _ _ _ _ _) _ c.places-lent.ensures c.in_ok-path.path e.path e.same) in
    let p = err_from_is_err_and c.from_residual-in_err-judge_back.result c.from_residual-in_err-judge_back.ensures.1 in
    rw (p.1, p.2) (back-refuses _ _ _ shown kept _ (back-by-bytes _ _ _ shown kept _ _ _ _ passed ∙ done-refused _ _ c.in_err-judge_back.ensures))

pub bring_back-requires : goal.bring_back-requires
bring_back-requires c =
    let a = c.args in
    let shown = shown_in a.order.now a.sums.now in
    let kept = kept_in a.marks.now a.stops.now a.kept.now in
    let e = c.in_ok-path.ensures in
    let passed = by-path _ _ a.name shown kept _ (good-path _ _ _ _ (room-agrees _ _ _ _ _) _ c.places-lent.ensures c.in_ok-path.path e.path e.same) in
    let f = fits _ _ _ shown kept _ _ _ _ passed in
    let j = back-judged _ _ _ _ _ a.marks.now a.stops.now a.kept.now (done-good _ c.in_ok-judge_back.ensures) in
    (passed.small, j.above, j.below, f.long_order, f.long_sums, f.long_stops, f.long_kept)

pub returns : goal.returns
returns c =
    let a = c.args in
    let shown = shown_in a.order.now a.sums.now in
    let kept = kept_in a.marks.now a.stops.now a.kept.now in
    let e = c.in_ok-path.ensures in
    let passed = by-path _ _ a.name shown kept _ (good-path _ _ _ _ (room-agrees _ _ _ _ _) _ c.places-lent.ensures c.in_ok-path.path e.path e.same) in
    let j = back-judged _ _ _ _ _ a.marks.now a.stops.now a.kept.now (done-good _ c.in_ok-judge_back.ensures) in
    let w = c.bring_back.ensures in
    back-made _ _ _ shown kept _ _ _ _ passed (shown_in _ _) j w.0 w.1
