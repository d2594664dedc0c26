-- `records::put_signed` meets its contract: the library's bytes of a number are those of a field.
use mathlib.Core.Path.{ap, ◌∙◌}
use mathlib.Core.List.{List}
use Prim.Native.Nat.{ℕ}
use mir.Syntax.{w32}
use mir.Val.{of_z}
use mir.ValLaws.{to_z-of_z}
use Rattle.records.specs.Field.{bytes_of}
use Rattle.records.specs.Put.{put}
use Rattle.records.proofs.ByteLaws.{bytes-low, cast_unsigned_is}
use Rattle.records.proofs.field.put_signed.Goals as goal

pub returns : goal.returns
returns c =
    c.put.ensures
    ∙ ap (λ (v : List ℕ). put c.args.s.now c.args.at v)
    (c.to_le_bytes.ensures
    ∙ bytes-low 4 _
    ∙ ap (bytes_of 4) (ap (of_z w32) (to_z-of_z w32 c.args.value c.ranges.value) ∙ cast_unsigned_is c.args.value))
