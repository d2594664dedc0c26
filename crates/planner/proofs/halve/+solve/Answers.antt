-- `planner::halve::solve` meets its contract, and ends: m falls at each call.
use mathlib.Core.Path.{refl, sym, ap, ◌∙◌}
use Prim.Native.Nat.{◌+◌, ◌-◌, ◌<◌}
use native.Mathlib.Omega.{arith}
use Rattle.base.proofs.Size.{pow-le-1024}
use Rattle.rows.proofs.Blocks.{aligned-small, pow-half, first-half, second-half}
use Rattle.planner.proofs.Sizes.{sizes-small, sizes-kept}
use Rattle.planner.proofs.Halving.{halved-stops, first_found, second-found, solved-join, aligned_at, reached-at, solved-at}
use Rattle.planner.proofs.Smallest.{solved-none, solved-two}
use Rattle.planner.proofs.Weighings.{solve-one, solve-two, solve-sum}
use Rattle.planner.proofs.halve.+solve.Goals as goal

pub returns-then-m-eq0 : goal.returns-then-m-eq0
returns-then-m-eq0 g t c = let q = c.requires in (solved-none _ c.if-m-eq0.true q.holds_stops, solve-one c.if-m-eq0.true)

pub returns-then-m-eq1 : goal.returns-then-m-eq1
returns-then-m-eq1 g t c =
    let q = c.requires in
    (solved-two _ refl c.if-m-eq1.true q.aligned_block q.holds_stops q.last_reached q.lent_sizes.places c.pair.ensures, solve-two c.if-m-eq1.true)

pub pow-half-requires : goal.pow-half-requires
pow-half-requires g t c = let q = c.requires in omega (arith, pow-le-1024 (c.args.m - 1) (omega (arith, aligned-small q.aligned_block (sizes-small q.lent_sizes))))

pub solve-first-requires : goal.solve-first-requires
solve-first-requires g t c =
    let q = c.requires in
    let some : 0 < c.args.m = omega (arith, c.if-m-eq0.false) in
    let p = c.split-here in
    let fixed = p.ensures.0 in
    λ κs sub. (
      omega arith,
      (sub, (sizes-kept q.lent_sizes p.auto.order p.auto.totals p.auto.pivots, (first-half q.aligned_block some, (halved-stops _ _ refl _ _ _ q.aligned_block some q.lent_sizes.places _ fixed q.holds_stops q.last_reached, first_found _ _ refl _ _ _ q.aligned_block some q.lent_sizes.places _ fixed q.last_reached)))),
    )

-- the second half begins within the places
pub overflow_add-left : goal.overflow_add-left
overflow_add-left g t c =
    let q = c.requires in
    omega (arith, c.pow-half.ensures, q.aligned_block.inside, pow-half c.args.m (omega (arith, c.if-m-eq0.false)), sizes-small q.lent_sizes)

pub solve-second-requires : goal.solve-second-requires
solve-second-requires g t c =
    let q = c.requires in
    let some : 0 < c.args.m = omega (arith, c.if-m-eq0.false) in
    let p = c.split-here in
    let r = c.solve-first in
    let e = ap (λ x. c.args.left + x) (sym c.pow-half.ensures) in
    λ κs sub. (
      omega arith,
      (sub, (sizes-kept q.lent_sizes (r.auto.order ∙ p.auto.order) (r.auto.totals ∙ p.auto.totals) (r.auto.pivots ∙ p.auto.pivots), (aligned_at e (second-half q.aligned_block some), (r.ensures.0.stops, reached-at e (second-found _ _ refl _ _ _ q.aligned_block some q.lent_sizes.places _ p.ensures.0 _ q.last_reached r.ensures.0))))),
    )

pub overflow_add-result : goal.overflow_add-result
overflow_add-result g t c =
    let few = aligned-small c.requires.aligned_block (sizes-small c.requires.lent_sizes) in
    omega (arith, solve-sum (omega (arith, c.if-m-eq1.false, c.if-m-eq0.false)) few c.split-here.ensures.1 c.solve-first.ensures.1 c.solve-second.ensures.1)

pub overflow_add-result-2 : goal.overflow_add-result-2
overflow_add-result-2 g t c =
    let few = aligned-small c.requires.aligned_block (sizes-small c.requires.lent_sizes) in
    omega (arith, solve-sum (omega (arith, c.if-m-eq1.false, c.if-m-eq0.false)) few c.split-here.ensures.1 c.solve-first.ensures.1 c.solve-second.ensures.1)

pub returns : goal.returns
returns g t c =
    let q = c.requires in
    let few = aligned-small q.aligned_block (sizes-small q.lent_sizes) in (
      solved-join _ _ refl _ _ _ q.aligned_block (omega (arith, c.if-m-eq0.false)) q.lent_sizes.places _ c.split-here.ensures.0 _ _ c.solve-first.ensures.0 (solved-at (ap (λ x. c.args.left + x) c.pow-half.ensures) c.solve-second.ensures.0),
      (solve-sum (omega (arith, c.if-m-eq1.false, c.if-m-eq0.false)) few c.split-here.ensures.1 c.solve-first.ensures.1 c.solve-second.ensures.1).0,
    )
