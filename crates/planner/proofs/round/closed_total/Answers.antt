-- `planner::round::closed_total` meets its contract: the last row of a pass has the total of the stop that closes.
use Rattle.planner.proofs.ByTable.{made}
use Rattle.planner.proofs.Tours.{tour-few, end-weighed}
use Rattle.planner.proofs.round.closed_total.Goals as goal

pub returns : goal.returns
returns c =
    let q = c.requires in
    let m = made c.new-costs.result (c.new-costs.ensures.fits.1 (tour-few q.0, q.0.square)) c.new-costs.ensures.holds c.pass_if_any.ensures.made in
    end-weighed _ _ _ q.0 c.args.last q.1 q.2 q.3 (rw (m.1.0, m.1.1, m.1.2) at m.2)
