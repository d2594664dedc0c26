-- `planner::halve::last_place` meets its contract.
use mathlib.Core.Path.{◌≡◌, sym, ap, subst, ◌∙◌}
use Prim.Native.Nat.{ℕ, ◌+◌, ◌*◌, ◌-◌, ◌^◌, ◌<◌}
use native.Mathlib.Omega.{arith}
use lib.ListN.{length, get_or, set}
use Rattle.rows.specs.Pass.{PassLeft, RowHolds}
use Rattle.rows.proofs.Blocks.{pow-half}
use Rattle.planner.specs.Method.{all_walks, HoldsStops, LentSizes}
use Rattle.planner.proofs.Sizes.{sizes-small, sizes-pos}
use Rattle.planner.proofs.Stores.{set-order, zeroed-stops}
use Rattle.planner.proofs.Least.{least_lt}
use Rattle.planner.proofs.Split.{pass-whole}
use Rattle.planner.proofs.Ends.{ends-fixed}
use Rattle.planner.proofs.halve.last_place.Given as given
use Rattle.planner.proofs.halve.last_place.Goals as goal
use Rattle.planner.proofs.halve.last_place.Goals.{After-least-held}

-- the lengths, by the number that the code has
sizes : (g : given.Over) (c : After-least-held g) → let a = c.args in LentSizes c.stops-n.result (length a.order.now) (length a.totals.now) (length a.pivots.now)
sizes g c = rw (← c.stops-n.ensures) at c.requires.lent_sizes

-- what is chosen is a stop
chosen : (g : given.Over) (c : After-least-held g) → c.least-held.result.stop < c.stops-n.result
chosen g c =
    let n = c.stops-n.result in
    omega (arith, ap (λ (x : ℕ × ℕ). x.1) c.least-held.ensures, least_lt (λ j. get_or c.pass_if_any-weighings.new.totals (n + j) 0) n n (sizes-pos (sizes g c)) (omega arith))

-- every place is a stop, before and after the last one is written
zeroed : (g : given.Over) (c : After-least-held g) → let u = c.fill.new.self in HoldsStops c.stops-n.result u × (length u ≡ c.stops-n.result)
zeroed g c = let z = sizes g c in zeroed-stops (c.fill.ensures.after (λ y e. e)) z.places (sizes-pos z)

written : (g : given.Over) (c : After-least-held g) → let u = set c.fill.new.self (c.stops-n.result - 1) c.least-held.result.stop in HoldsStops c.stops-n.result u × (length u ≡ c.stops-n.result)
written g c = set-order _ _ (zeroed g c) (chosen g c)

pub overflow_cast-order : goal.overflow_cast-order
overflow_cast-order g c = let held = (goal.at.overflow_cast-order g c).After-least-held in omega (arith, chosen g held, sizes-small (sizes g held))

pub fix_middle-requires : goal.fix_middle-requires
fix_middle-requires g c =
    let held = (goal.at.fix_middle-requires g c).After-least-held in
    let z = sizes g held in
    let order = written g held in
    let q = c.requires.k_nonzero in
    let size : 2 * c.pow.result ≡ c.stops-n.result = omega (arith, c.pow.ensures, pow-half c.args.k q.0, q.1, c.stops-n.ensures) in
    record {
      half_nonzero = (omega (arith, size, sizes-pos z), omega (arith, size), sizes-small z, order.1, c.pass_if_any-weighings.auto.pivots ∙ z.marks);
      holds_stops = order.0;
    }

pub returns : goal.returns
returns g c =
    let held = (goal.at.returns g c).After-least-held in
    let stops = zeroed g held in
    let q = c.requires in
    let e = c.stops-n.ensures in
    let left : let a = c.args in PassLeft (g.C.Costs.costing a.costs) 0 0 0 a.k a.totals.now a.pivots.now c.pass_if_any-weighings.new.totals c.pass_if_any-weighings.new.pivots c.pass_if_any-weighings.result =
    c.pass_if_any-weighings.ensures.made.made (pass-whole q.lent_sizes q.k_nonzero.0 q.k_nonzero.1) in
    rw (← e) (
      ends-fixed _ _ _ _ _ _ _ (sym e) (e ∙ q.k_nonzero.1) q.k_nonzero.0 c.pow.ensures stops.1 stops.0 (chosen g held) (rw (← e) at q.k_nonzero.2) (subst (λ x. RowHolds (all_walks (g.C.Costs.costing c.args.costs)) (2 ^ (c.args.k - 1) - 1) (2 ^ c.args.k - 1) x 0 (2 ^ c.args.k) c.pass_if_any-weighings.new.totals c.pass_if_any-weighings.new.pivots) (sym e) left.row) c.least-held.ensures c.fix_middle.ensures,
      left.counted,
    )
