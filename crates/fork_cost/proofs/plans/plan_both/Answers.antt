-- `fork_cost::plans::plan_both` meets its contract: the first plan is the returned order, its fork's state is read, and the second plan is the opposite one.
use native.Mathlib.Omega.{arith}
use Rattle.fork_cost.proofs.Both.{front-allowed, both_left}
use Rattle.fork_cost.proofs.plans.plan_both.Goals as goal

pub has_exchanged-exchanged-requires : goal.has_exchanged-exchanged-requires
has_exchanged-exchanged-requires c =
    let q = c.requires in
    let p = c.args.path in
    (q.0.small, q.2, omega (arith, c.write_order-total.auto.order, q.3), front-allowed p.bytes.now p.version p.k c.write_order-total.ensures.wrote)

pub returns : goal.returns
returns c =
    let q = c.requires in
    let p = c.args.path in
    both_left p.bytes.now p.version p.k q.1 q.2 c.write_order-total.ensures c.has_exchanged-exchanged.ensures c.write_order-other.ensures
