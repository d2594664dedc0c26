-- `screen::update::place_above` meets its contract.
use mathlib.Core.Path.{◌≡◌, ◌∙◌}
use Prim.Native.Nat.{ℕ, ◌*◌, ◌/◌, ◌≤◌, ◌<◌}
use native.Mathlib.Nat.{div-add-mod'}
use native.Mathlib.Omega.{arith}
use Rattle.tree.specs.Neighbour.{reach}
use Rattle.tree.proofs.Beside.{reach_of-pos}
use Rattle.orders.proofs.Shift.{reach-pos, reach-lt}
use Rattle.screen.proofs.update.place_above.Goals as goal
use Rattle.screen.proofs.update.place_above.Goals.{After-reach-r}

-- the reach of the place
known : (c : After-reach-r) → let p = c.args.p in (c.reach-r.result ≡ reach p) × (0 < c.reach-r.result) × (c.reach-r.result < 1024)
known c =
    let p : ℕ = c.args.p in
    let is : c.reach-r.result ≡ reach p = c.reach-r.ensures ∙ reach_of-pos p c.requires.0 in
    (is, omega (arith, reach-pos p), omega (arith, reach-lt 10 p c.requires.0 c.requires.1))

-- the first place of the block
first : (c : After-reach-r) → let p = c.args.p in p / (4 * c.reach-r.result) * (4 * c.reach-r.result) ≤ p
first c = let p : ℕ = c.args.p in omega (arith, div-add-mod' p (4 * c.reach-r.result))

pub overflow_mul-result : goal.overflow_mul-result
overflow_mul-result c = omega (arith, (known c).2)

pub overflow_mul-result-2 : goal.overflow_mul-result-2
overflow_mul-result-2 c = omega (arith, (known c).2)

pub overflow_mul-result-4 : goal.overflow_mul-result-4
overflow_mul-result-4 c = omega (arith, (known c).2)

pub overflow_add-result : goal.overflow_add-result
overflow_add-result c = omega (arith, first c, (known c).2, c.requires.1)
