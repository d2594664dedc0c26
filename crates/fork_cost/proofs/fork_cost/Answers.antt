-- `fork_cost::fork_cost` meets its contract: the path with its lengths, the fork, and then what both plans tell.
use mathlib.Core.Path.{sym, ap, ◌∙◌}
use Prim.Native.Nat.{◌+◌, ◌/◌, min}
use native.Mathlib.Omega.{arith}
use lib.ListN.{length}
use lib.Seq.{length-take-le}
use Rattle.std.proofs.lemmas.Result.{err_from_is_err_and}
use Rattle.base.proofs.Size.{stop_count-pow}
use Rattle.screen.proofs.Screen.{bad-path}
use Rattle.fork_cost.proofs.Judging.{room-places, path-good, path-refused, fork-refused, long, judged, cost-given}
use Rattle.fork_cost.proofs.fork_cost.Goals as goal
use Rattle.fork_cost.proofs.fork_cost.Goals.{then-fork-eq0-via-then-fork-eq0, then-fork-eq0-via-else-fork-eq0+then-n-fork}

pub returns-in_err-path : goal.returns-in_err-path
returns-in_err-path c =
    let a = c.args in
    let places = ap (λ x. x / 2) (c.min-least.ensures ∙ ap (λ x. min x (length a.orders.now)) c.min.ensures) in
    let p = err_from_is_err_and c.from_residual.result c.from_residual.ensures.1 in
    rw (p.1, p.2) (path-refused a.bytes.now a.highest a.fork a.totals.now a.pivots.now a.orders.now _ (bad-path _ _ _ _ (room-places _ _ _) _ places _ c.in_err-path.ensures.path))

pub returns-then-fork-eq0 : goal.returns-then-fork-eq0
returns-then-fork-eq0 c =
    let a = c.args in
    let e = c.in_ok-path.ensures in
    let good = path-good a.bytes.now a.highest (length a.totals.now) (length a.pivots.now) (length a.orders.now) c.min.ensures c.min-least.ensures c.in_ok-path.path e.path e.same in
    let count = c.stop_count-n.ensures ∙ stop_count-pow _ good.small in
    elim c.then-fork-eq0.branch [
      | then-fork-eq0-via-then-fork-eq0 w ↦ fork-refused a.bytes.now a.highest a.fork a.totals.now a.pivots.now a.orders.now c.in_ok-path.path good (λ x y. omega (arith, w.if-fork-eq0.true))
      | then-fork-eq0-via-else-fork-eq0+then-n-fork w ↦ fork-refused a.bytes.now a.highest a.fork a.totals.now a.pivots.now a.orders.now c.in_ok-path.path good (λ x y. omega (arith, w.if-n-fork.true, count))
    ]

pub slice_bounds-compare-end : goal.slice_bounds-compare-end
slice_bounds-compare-end c =
    let a = c.args in
    let e = c.in_ok-path.ensures in
    let good = path-good a.bytes.now a.highest (length a.totals.now) (length a.pivots.now) (length a.orders.now) c.min.ensures c.min-least.ensures c.in_ok-path.path e.path e.same in
    let count = c.stop_count-n.ensures ∙ stop_count-pow _ good.small in
    let l = long a.bytes.now a.highest a.fork a.totals.now a.pivots.now a.orders.now c.in_ok-path.path good count in
    l.0

pub slice_bounds-compare-end-2 : goal.slice_bounds-compare-end-2
slice_bounds-compare-end-2 c =
    let a = c.args in
    let e = c.in_ok-path.ensures in
    let good = path-good a.bytes.now a.highest (length a.totals.now) (length a.pivots.now) (length a.orders.now) c.min.ensures c.min-least.ensures c.in_ok-path.path e.path e.same in
    let count = c.stop_count-n.ensures ∙ stop_count-pow _ good.small in
    let l = long a.bytes.now a.highest a.fork a.totals.now a.pivots.now a.orders.now c.in_ok-path.path good count in
    sym (length-take-le _ _ l.0)

pub compare-requires : goal.compare-requires
compare-requires c =
    let a = c.args in
    let e = c.in_ok-path.ensures in
    let good = path-good a.bytes.now a.highest (length a.totals.now) (length a.pivots.now) (length a.orders.now) c.min.ensures c.min-least.ensures c.in_ok-path.path e.path e.same in
    let count = c.stop_count-n.ensures ∙ stop_count-pow _ good.small in
    let l = long a.bytes.now a.highest a.fork a.totals.now a.pivots.now a.orders.now c.in_ok-path.path good count in (
      judged a.bytes.now a.highest a.fork a.totals.now a.pivots.now a.orders.now c.in_ok-path.path good e.same,
      omega (arith, c.if-fork-eq0.false),
      omega (arith, count, c.if-n-fork.false),
      length-take-le _ _ l.0 ∙ ap (λ n. n + n) count,
    )

pub returns : goal.returns
returns c =
    let a = c.args in
    let e = c.in_ok-path.ensures in
    let good = path-good a.bytes.now a.highest (length a.totals.now) (length a.pivots.now) (length a.orders.now) c.min.ensures c.min-least.ensures c.in_ok-path.path e.path e.same in
    let count = c.stop_count-n.ensures ∙ stop_count-pow _ good.small in
    let l = long a.bytes.now a.highest a.fork a.totals.now a.pivots.now a.orders.now c.in_ok-path.path good count in
    cost-given a.bytes.now a.highest a.fork a.totals.now a.pivots.now a.orders.now c.in_ok-path.path good e.same (omega (arith, c.if-fork-eq0.false)) (omega (arith, count, c.if-n-fork.false)) count c.compare.ensures
