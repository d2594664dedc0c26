-- `planner::held_fork::level` meets its contract.
use Rattle.planner.proofs.HeldForks.{level-found, level-small}
use Rattle.planner.proofs.held_fork.level.Goals as goal

pub returns : goal.returns
returns c =
    let q = c.requires in
    let e = c.ilog2.ensures in
    let l = level-found q.1 q.2 e.power_le e.next_power_gt in
    (level-small q.0 q.1 l.inside, l)
