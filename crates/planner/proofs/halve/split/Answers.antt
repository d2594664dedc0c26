-- `planner::halve::split` meets its contract.
use mathlib.Core.Path.{refl, ◌∙◌}
use Prim.Native.Nat.{◌+◌, ◌*◌, ◌-◌, ◌/◌}
use native.Mathlib.Omega.{arith}
use lib.Pow.{pow_pos}
use Rattle.rows.specs.Pass.{PassLeft}
use Rattle.tree.specs.Neighbour.{in_place}
use Rattle.planner.proofs.Split.{Around, halves-fit, around, pass-ready, middle-fixed}
use Rattle.planner.proofs.halve.split.Goals as goal

pub bounds-order-left : goal.bounds-order-left
bounds-order-left g c =
    let q = c.requires in
    omega (arith, halves-fit q.lent_sizes q.m_nonzero.0 q.m_nonzero.1 c.pow-half.ensures, q.lent_sizes.places, pow_pos c.args.m)

pub fix_middle-requires-clause-half_nonzero : goal.fix_middle-requires-clause-half_nonzero
fix_middle-requires-clause-half_nonzero g c =
    let q = c.requires in
    let fits = halves-fit q.lent_sizes q.m_nonzero.0 q.m_nonzero.1 c.pow-half.ensures in
    rw c.stops-n.ensures (omega (arith, fits, pow_pos c.args.m), omega (arith, fits), fits.2, q.lent_sizes.places, c.pass_if_any-count.auto.pivots ∙ q.lent_sizes.marks)

pub returns : goal.returns
returns g c =
    let q = c.requires in
    let fits = halves-fit q.lent_sizes q.m_nonzero.0 q.m_nonzero.1 c.pow-half.ensures in
    let size = c.pow-half.result + c.pow-half.result in
    let last = in_place c.args.order.now (c.args.left + size - 1) in
    let near : let a = c.args in Around (g.C.Costs.costing a.costs).stops a.order.now a.left a.m (last / size * size) c.stop_before-before.result =
    around _ q.lent_sizes.k last size q.lent_sizes.stops q.m_nonzero.1 q.holds_stops q.last_reached fits.0 refl c.stop_before-before.ensures in
    let left : let a = c.args in
    PassLeft (g.C.Costs.costing a.costs) c.stop_before-before.result a.left (last / size * size) a.m
    a.totals.now a.pivots.now c.pass_if_any-count.new.totals c.pass_if_any-count.new.pivots c.pass_if_any-count.result = c.pass_if_any-count.ensures.made.made (pass-ready q.lent_sizes q.m_nonzero.0 q.m_nonzero.1 near) in
    (middle-fixed _ q.m_nonzero.0 c.pow-half.ensures near left.row (rw c.stops-n.ensures at c.fix_middle.ensures), left.counted)
