-- `screen::forks::fork_between` meets its contract: to halve a number t times is to divide it by the reach.
use Rattle.orders.proofs.Shift.{Known, known, fork-is}
use Rattle.screen.proofs.forks.fork_between.Goals as goal
use Rattle.screen.proofs.forks.fork_between.Goals.{After-reach-r}

at : (c : After-reach-r) → Known c.args.k c.args.p c.stop_count-n.result c.reach-r.result
at c = known _ _ _ _ c.requires.0 c.requires.1 c.requires.2 c.stop_count-n.ensures c.reach-r.ensures

pub returns : goal.returns
returns c = fork-is _ _ _ _ _ c.requires.1 c.requires.2 (at c)
