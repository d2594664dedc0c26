-- `orders::judge::may_follow` meets its contract.
use mathlib.Core.Path.{◌≡◌, ◌∙◌}
use borrow.Author.Tests.{lt-leb}
use Rattle.tree.specs.Neighbour.{reach}
use Rattle.tree.proofs.Beside.{reach_of-pos}
use Rattle.orders.proofs.Shift.{follow-near, follow-far}
use Rattle.orders.proofs.judge.may_follow.Goals as goal

pub returns-then-r-x : goal.returns-then-r-x
returns-then-r-x c =
    let e : c.reach-r.result ≡ reach c.args.p = c.reach-r.ensures ∙ reach_of-pos c.args.p c.requires in
    rw e (follow-far c.args.p c.args.a c.args.b (rw (← e) c.if-r-x.true))

pub returns-else-r-x : goal.returns-else-r-x
returns-else-r-x c =
    let e : c.reach-r.result ≡ reach c.args.p = c.reach-r.ensures ∙ reach_of-pos c.args.p c.requires in
    rw (lt-leb _ _ c.if-r-x.false) (follow-near c.args.p c.args.a c.args.b (rw (← e) c.if-r-x.false))
