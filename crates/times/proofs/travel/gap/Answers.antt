-- `times::travel::gap` meets its contract: the way has at most 17 bits, and its absolute value is what is cast.
use Rattle.std.proofs.Common.{refl, ◌≡◌, ◌≤◌, nat_abs, pos, ◌-ℤ◌, to_z, of_z, w32, arith}
use mir.ValLaws.{to_z-of_z}
use Rattle.stop.proofs.Signed.{nat_abs-sub, read_back, negated}
use Rattle.times.specs.Time.{gap, largest_distance}
use Rattle.times.proofs.travel.gap.Goals as goal
use Rattle.times.proofs.travel.gap.Goals.{Start}

-- the way is small
bound : (c : Start) → nat_abs (c.args.b -ℤ c.args.a) ≤ largest_distance
bound c = omega (arith, nat_abs-sub c.args.b c.args.a)

-- and is what is computed
way : (c : Start) → to_z w32 (of_z w32 (to_z w32 (of_z w32 c.args.b) -ℤ to_z w32 (of_z w32 c.args.a))) ≡ c.args.b -ℤ c.args.a
way c =
    rw (to_z-of_z w32 c.args.a c.ranges.a, to_z-of_z w32 c.args.b c.ranges.b)
    (read_back (c.args.b -ℤ c.args.a) (omega (arith, bound c)))

pub returns-then-way-lt0 : goal.returns-then-way-lt0
unfolding gap
returns-then-way-lt0 c =
    let d = c.args.b -ℤ c.args.a in
    rw (way c.before, negated d (rw (way c.before) at c.if-way-lt0.true), read_back (pos (nat_abs d)) (omega (arith, bound c.before)))
    (refl, bound c.before)

pub returns-else-way-lt0 : goal.returns-else-way-lt0
unfolding gap
returns-else-way-lt0 c = rw (way c.before) (refl, bound c.before)
