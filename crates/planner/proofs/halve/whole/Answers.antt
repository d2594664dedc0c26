-- `planner::halve::whole` meets its contract.
use mathlib.Core.Path.{refl, sym, ap, ◌∙◌}
use Prim.Native.Nat.{◌-◌, ◌^◌, ◌<◌, ◌≤◌}
use native.Mathlib.Nat.{zero-add}
use native.Mathlib.Omega.{arith}
use Rattle.base.proofs.Size.{pow-le-1024}
use Rattle.rows.proofs.Blocks.{aligned-small, first-half, second-half}
use Rattle.planner.proofs.Sizes.{sizes-small, sizes-pos, sizes-kept}
use Rattle.planner.proofs.Stores.{set-only}
use Rattle.planner.proofs.Halving.{whole-block, aligned_at, reached-at, solved-at}
use Rattle.planner.proofs.Ends.{first-ready, second-ready, finished, one-stop}
use Rattle.planner.proofs.Weighings.{plan-one, plan-sum}
use Rattle.planner.proofs.halve.whole.Given as given
use Rattle.planner.proofs.halve.whole.Goals as goal
use Rattle.planner.proofs.halve.whole.Goals.{Start}

-- k is at most 10
few : (g : given.Over) (c : Start g) → c.args.k ≤ 10
few g c = let q = c.requires in aligned-small (whole-block q.n_value.0) (sizes-small q.lent_sizes)

pub returns-then-k-eq0 : goal.returns-then-k-eq0
returns-then-k-eq0 g c =
    let q = c.requires in
    let one = q.n_value.0 ∙ ap (λ x. 2 ^ x) c.if-k-eq0.true in
    (one-stop _ refl one q.n_value.1 (set-only c.args.order.now (q.lent_sizes.places ∙ one)) (c.start_cost_if_any.ensures.told.told (sizes-pos q.lent_sizes)), plan-one c.if-k-eq0.true)

pub pow-half-requires : goal.pow-half-requires
pow-half-requires g c = omega (arith, pow-le-1024 (c.args.k - 1) (omega (arith, few g (goal.at.pow-half-requires g c).Start)))

pub solve-first-requires : goal.solve-first-requires
solve-first-requires g c =
    let some : 0 < c.args.k = omega (arith, c.if-k-eq0.false) in
    let q = c.requires in
    let p = c.last_place-ends in
    let r = first-ready _ _ _ refl q.n_value.0 some _ _ p.ensures.0 in record {
      lent_sizes = sizes-kept q.lent_sizes p.auto.order p.auto.totals p.auto.pivots;
      aligned_block = first-half (whole-block q.n_value.0) some;
      holds_stops = r.0;
      last_reached = r.1;
    }

pub solve-second-requires-clause-aligned_block : goal.solve-second-requires-clause-aligned_block
solve-second-requires-clause-aligned_block g c =
    aligned_at (zero-add _ ∙ sym c.pow-half.ensures) (second-half (whole-block c.requires.n_value.0) (omega (arith, c.if-k-eq0.false)))

pub solve-second-requires-clause-last_reached : goal.solve-second-requires-clause-last_reached
solve-second-requires-clause-last_reached g c =
    reached-at (sym c.pow-half.ensures) (second-ready _ _ _ refl c.requires.n_value.0 (omega (arith, c.if-k-eq0.false)) _ _ c.last_place-ends.ensures.0 _ c.solve-first.ensures.0)

pub overflow_add-result : goal.overflow_add-result
overflow_add-result g c =
    omega (arith, plan-sum (omega (arith, c.if-k-eq0.false)) (few g (goal.at.overflow_add-result g c).Start) c.last_place-ends.ensures.1 c.solve-first.ensures.1 c.solve-second.ensures.1)

pub overflow_add-result-2 : goal.overflow_add-result-2
overflow_add-result-2 g c =
    omega (arith, plan-sum (omega (arith, c.if-k-eq0.false)) (few g (goal.at.overflow_add-result-2 g c).Start) c.last_place-ends.ensures.1 c.solve-first.ensures.1 c.solve-second.ensures.1)

pub returns : goal.returns
returns g c =
    let some : 0 < c.args.k = omega (arith, c.if-k-eq0.false) in
    let q = c.requires in
    let p = c.last_place-ends in
    let r = c.solve-first in
    let s = c.solve-second in
    let long = s.auto.order ∙ r.auto.order ∙ p.auto.order ∙ q.lent_sizes.places in
    (finished _ _ _ refl q.n_value.0 some _ _ p.ensures.0 _ _ long r.ensures.0 (solved-at c.pow-half.ensures s.ensures.0), (plan-sum some (few g (goal.at.returns g c).Start) p.ensures.1 r.ensures.1 s.ensures.1).0)
