-- `rows::ready::follows` meets its contract.
use mathlib.Core.Path.{◌≡◌, ◌∙◌}
use Prim.Native.Nat.{◌*◌, ◌<◌}
use native.Mathlib.Omega.{arith}
use lib.Bits.{bit_xor}
use Rattle.tree.specs.Neighbour.{reach}
use Rattle.tree.proofs.Beside.{reach_of-pos}
use Rattle.rows.proofs.Along.{reach_few}
use Rattle.rows.proofs.Asked.{tells-no, tells-below, may-follow, not-below, follow-below}
use Rattle.rows.proofs.ready.follows.Goals as goal
use Rattle.rows.proofs.ready.follows.Goals.{After-reach-r}

-- it is not place 0
later : (c : After-reach-r) → 0 < c.args.left
later c = omega (arith, c.if-left-eq0.false)

-- the place's reach
reaches : (c : After-reach-r) → c.reach-r.result ≡ reach c.args.left
reaches c = c.reach-r.ensures ∙ reach_of-pos _ (later c)

pub returns-then-x-r : goal.returns-then-x-r
returns-then-x-r c = tells-no (λ f. not-below _ _ _ (omega (arith, reaches c.before, c.if-x-r.true)) (f (later c.before)))

pub overflow_mul-result : goal.overflow_mul-result
overflow_mul-result c = omega (arith, reaches c.before, reach_few _ (later c.before) c.requires)

pub returns : goal.returns
returns c =
    let r = reaches c.before in
    let a = c.args in
    let high = c.if-x-r.false in
    tells-below (bit_xor a.before a.base) (2 * c.reach-r.result) (λ x pos. may-follow a.left a.before a.base (omega (arith, r, high)) (omega (arith, r, x))) (λ f. rw r (follow-below a.left a.before a.base (omega (arith, r, high)) (f (later c.before))))
