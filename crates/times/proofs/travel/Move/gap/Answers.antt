-- `times::travel::Move::gap` meets its contract: the coordinates are read as they are, and are within the limit.
use mathlib.Core.Path.{◌≡◌}
use mir.Syntax.{w32}
use mir.Val.{to_z, of_z}
use borrow.Author.Rules.{rules}
use Rattle.stop.specs.Stop.{coordinate}
use Rattle.times.specs.Time.{gap}
use Rattle.stop.proofs.Limits.{good, coordinate-bound}
use Rattle.times.proofs.travel.Move.gap.Goals as goal

pub gap-requires : goal.gap-requires
gap-requires c =
    let a = c.args in let x = coordinate a.self.from a.axis in
    let y = coordinate a.self.to a.axis in
    let rx : to_z w32 (of_z w32 x) ≡ x = search rules in
    let ry : to_z w32 (of_z w32 y) ≡ y = search rules in
    rw (rx, ry)
    (coordinate-bound a.self.from (good a.self.from a.self.from_good) a.axis, coordinate-bound a.self.to (good a.self.to a.self.to_good) a.axis)
