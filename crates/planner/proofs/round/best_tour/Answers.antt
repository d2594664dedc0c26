-- `planner::round::best_tour` meets its contract: the best last stop is written, and the places before it are solved.
use mathlib.Core.Path.{◌≡◌, ◌∙◌}
use Prim.Native.Nat.{◌-◌}
use lib.ListN.{length, set}
use Rattle.planner.specs.Method.{HoldsStops}
use Rattle.planner.proofs.Stores.{zeroed-stops, set-order}
use Rattle.planner.proofs.Halving.{whole-block}
use Rattle.planner.proofs.Tours.{tour-few, tour-pos, tour-reached, tour-solved}
use Rattle.planner.proofs.round.best_tour.Goals as goal
use Rattle.planner.proofs.round.best_tour.Goals.{After-best_end-held}

-- every place is a stop, before and after the last one is written
zeroed : (c : After-best_end-held) → let u = c.fill.new.self in HoldsStops c.args.n u × (length u ≡ c.args.n)
zeroed c = let q = c.requires in zeroed-stops (c.fill.ensures.after (λ y e. e)) q.1 (tour-pos q.0)

written : (c : After-best_end-held) → let n = c.args.n in let u = set c.fill.new.self (n - 1) c.best_end-held.result.stop in HoldsStops n u × (length u ≡ n)
written c = set-order _ _ (zeroed c) c.best_end-held.ensures.below

pub unwrap-costs-requires : goal.unwrap-costs-requires
unwrap-costs-requires c = let z = c.requires.0 in c.new.ensures.fits.1 (tour-few z, z.square)

pub solve-requires-clause-lent_sizes : goal.solve-requires-clause-lent_sizes
solve-requires-clause-lent_sizes c =
    let held = (goal.at.solve-requires-clause-lent_sizes c).After-best_end-held in
    let q = c.requires in
    let m = rw c.unwrap-costs.ensures at c.new.ensures.holds in
    rw m.0 (record { k = c.args.k; small = q.0.small; stops = q.0.stops; places = (written held).1; rows = c.best_end-held.auto.totals ∙ q.2; marks = c.best_end-held.auto.pivots ∙ q.3 })

pub solve-requires-clause-aligned_block : goal.solve-requires-clause-aligned_block
solve-requires-clause-aligned_block c =
    let m = rw c.unwrap-costs.ensures at c.new.ensures.holds in
    rw m.0 (whole-block c.requires.0.stops)

pub solve-requires-clause-holds_stops : goal.solve-requires-clause-holds_stops
solve-requires-clause-holds_stops c =
    let m = rw c.unwrap-costs.ensures at c.new.ensures.holds in
    rw m.0 (written (goal.at.solve-requires-clause-holds_stops c).After-best_end-held).0

pub solve-requires-clause-last_reached : goal.solve-requires-clause-last_reached
solve-requires-clause-last_reached c =
    let held = (goal.at.solve-requires-clause-last_reached c).After-best_end-held in
    let m = rw c.unwrap-costs.ensures at c.new.ensures.holds in
    rw (m.0, m.1, m.2) (tour-reached _ _ _ c.requires.0 c.best_end-held.result c.best_end-held.ensures c.fill.new.self (zeroed held).1)

pub returns : goal.returns
returns c =
    let held = (goal.at.returns c).After-best_end-held in
    let m = rw c.unwrap-costs.ensures at c.new.ensures.holds in
    tour-solved _ _ _ c.requires.0 c.best_end-held.result c.best_end-held.ensures c.fill.new.self _ (zeroed held).1 (c.solve.auto.order ∙ (written held).1) (rw (m.0, m.1, m.2) at c.solve.ensures.0)
