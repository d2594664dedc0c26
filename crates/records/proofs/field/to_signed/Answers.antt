-- `records::to_signed` meets its contract: the library's cast is that of two's complement.
use mathlib.Core.Path.{◌∙◌}
use native.Mathlib.Omega.{arith}
use mir.Syntax.{w32}
use mir.ValLaws.{to_z-of_z}
use Rattle.records.proofs.ByteLaws.{cast_signed_is}
use Rattle.records.proofs.field.to_signed.Goals as goal

pub returns : goal.returns
returns c =
    to_z-of_z w32 c.cast_signed.result (record { sfits = omega arith }) ∙ c.cast_signed.ensures ∙ cast_signed_is c.args.u
