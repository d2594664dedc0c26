-- `fork_cost::plans::write_order` meets its contract: the planner accepts, and leaves the plan.
use native.Mathlib.Omega.{arith}
use Rattle.fork_cost.proofs.Both.{plan-given, plan-long, plan-left, plan-ok}
use Rattle.fork_cost.proofs.plans.write_order.Goals as goal

pub unwrap-requires : goal.unwrap-requires
unwrap-requires c =
    let a = c.args in
    let q = c.requires in
    plan-ok c.plan_held.ensures (plan-given q.0 a.fork a.exchanged _ q.1 (omega (arith, q.2)))

pub returns : goal.returns
returns c =
    let a = c.args in
    let q = c.requires in
    plan-left c.plan_held.ensures (plan-given q.0 a.fork a.exchanged _ q.1 (omega (arith, q.2))) q.2 (plan-long a.path.bytes.now a.path.version a.path.k a.fork a.exchanged q.1) c.unwrap.ensures
