-- `orders::forks::mark_fork` meets its contract: to halve a number t times is to divide it by the reach.
use mathlib.Core.Path.{sym, ap, ◌∙◌}
use Rattle.orders.specs.Bits.{raised}
use Rattle.orders.proofs.Shift.{known, fork-is, marked-exchanged, marked-kept}
use Rattle.orders.proofs.forks.mark_fork.Goals as goal

pub returns-then-stop-r-eq0 : goal.returns-then-stop-r-eq0
returns-then-stop-r-eq0 c =
    let w = known c.args.k c.args.p _ _ c.requires.0 c.requires.1 c.requires.2 c.stop_count-n.ensures c.reach-r.ensures in
    c.raise.ensures
    ∙ ap (raised c.args.bits.now) (fork-is c.args.k c.args.p c.args.stop _ _ c.requires.1 c.requires.2 w)
    ∙ sym (marked-exchanged c.args.k c.args.p c.args.stop c.args.bits.now (rw w.is at c.if-stop-r-eq0.true))

pub returns-else-stop-r-eq0 : goal.returns-else-stop-r-eq0
returns-else-stop-r-eq0 c =
    let w = known c.args.k c.args.p _ _ c.requires.0 c.requires.1 c.requires.2 c.stop_count-n.ensures c.reach-r.ensures in
    sym (marked-kept c.args.k c.args.p c.args.stop c.args.bits.now (rw w.is at c.if-stop-r-eq0.false))
