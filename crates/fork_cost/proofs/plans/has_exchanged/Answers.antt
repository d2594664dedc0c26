-- `fork_cost::plans::has_exchanged` meets its contract: the bit of the order's fork string.
use mathlib.Core.Path.{◌∙◌}
use native.Mathlib.Omega.{arith}
use borrow.Author.Rules.{rules}
use Rattle.base.proofs.Size.{pow-le-1024}
use Rattle.orders.specs.Lent.{JudgedOrder}
use Rattle.orders.proofs.Allowed.{allowed-below, forks_of-gives}
use Rattle.orders.proofs.Calls.{bits-when}
use Rattle.fork_cost.proofs.Compared.{front-bit, bit-set}
use Rattle.fork_cost.proofs.plans.has_exchanged.Goals as goal

pub unwrap-requires : goal.unwrap-requires
unwrap-requires c =
    let q = c.requires in
    let a = c.args in
    let judged : JudgedOrder a.k a.order.now = record { small = q.0; long = q.2; below = allowed-below _ _ q.3; allowed = q.3 } in
    let made = bits-when a.k a.order.now _ _ _ judged (omega (arith, pow-le-1024 a.k q.0)) c.fork_bits.ensures in
    rw (made.0) (search rules)

pub returns : goal.returns
returns c =
    let q = c.requires in
    let a = c.args in
    let judged : JudgedOrder a.k a.order.now = record { small = q.0; long = q.2; below = allowed-below _ _ q.3; allowed = q.3 } in
    let made = bits-when a.k a.order.now _ _ _ judged (omega (arith, pow-le-1024 a.k q.0)) c.fork_bits.ensures in
    bit-set _ (omega arith) ∙ front-bit a.k _ _ _ a.fork (forks_of-gives _ _ q.3).small q.1 made.1
