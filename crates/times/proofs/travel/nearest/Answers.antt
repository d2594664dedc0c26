-- `times::travel::nearest` meets its contract: the rest is below q, and one comparison tells.
use Prim.Native.Nat.{◌/◌, ◌%◌, ◌≤◌, ◌<◌}
use native.Mathlib.Nat.{mod-lt, div-le_self}
use native.Mathlib.Omega.{arith}
use Rattle.times.proofs.Nearest.{nearest-up, nearest-down}
use Rattle.times.proofs.travel.nearest.Goals as goal
use Rattle.times.proofs.travel.nearest.Goals.{Start}

-- the rest, and the whole part
rest : (c : Start) → c.args.p % c.args.q < c.args.q
rest c = mod-lt _ c.requires.1

whole : (c : Start) → c.args.p / c.args.q ≤ c.args.p
whole c = div-le_self _ _

pub returns-then-q-rest : goal.returns-then-q-rest
returns-then-q-rest c =
    let small = mod-lt c.args.p c.requires.1 in
    nearest-up _ _ c.requires.1 (omega (arith, small, c.if-q-rest.true))

pub returns-else-q-rest : goal.returns-else-q-rest
returns-else-q-rest c = nearest-down _ _ c.requires.1 (omega (arith, c.if-q-rest.false))
