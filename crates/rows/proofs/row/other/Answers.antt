-- `rows::row::other` meets its contract.
use native.Mathlib.Omega.{arith}
use Rattle.rows.proofs.Pair.{other-made}
use Rattle.rows.proofs.row.other.Goals as goal

pub returns : goal.returns
returns g c =
    let a = c.args in
    let q = c.requires in
    let n = q.place_lt_n in
    let only = c.only-way.ensures in
    rw (← c.stops-n.ensures) (other-made _ _ a.totals.now a.pivots.now (omega (arith, q, c.stops-n.ensures)) (omega (arith, q, c.stops-n.ensures)) c.load-before.ensures
    (only.count_value, λ row s. only.leads row _ (record { inside = omega (arith, n.0, g.met.C.Costs.small c.args.costs); zeros = n.1; near = n.2; below = n.3; priced = c.of_move-cost.ensures; leads = s })))
