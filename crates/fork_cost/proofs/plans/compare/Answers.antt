-- `fork_cost::plans::compare` meets its contract: both plans, the place where they part, and what is told.
use native.Mathlib.Omega.{arith}
use Rattle.fork_cost.specs.Local.{times_by}
use Rattle.fork_cost.proofs.Both.{opposite-dearer}
use Rattle.fork_cost.proofs.Compared.{cost-left}
use Rattle.fork_cost.proofs.plans.compare.Goals as goal

pub cost_from-requires : goal.cost_from-requires
cost_from-requires c =
    let q = c.requires in
    let a = c.args in
    let l = c.plan_both-both.ensures in
    (omega (arith, l.sum, l.other_sum, opposite-dearer a.path.k (times_by a.path) a.fork q.1 q.2), c.last_apart-place.ensures.1)

pub returns : goal.returns
returns c =
    let q = c.requires in
    cost-left c.plan_both-both.ensures q.1 q.2 c.last_apart-place.ensures.0 (c.fill.ensures.after (λ y e. e)) c.cost_from.ensures
