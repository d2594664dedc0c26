-- `path::coordinate_in` meets its contract: four bytes, the lowest first, by two's complement.
use mathlib.Core.Path.{ap, ◌∙◌}
use mir.Syntax.{w32}
use mir.ValLaws.{to_z-of_z}
use Rattle.records.specs.Field.{signed}
use Rattle.path.proofs.Words.{number-four}
use Rattle.path.proofs.bytes.coordinate_in.Goals as goal

pub returns : goal.returns
returns c =
    to_z-of_z w32 c.to_signed.result (record { sfits = c.to_signed.type_inv })
    ∙ c.to_signed.ensures
    ∙ ap signed (c.from_le_bytes.ensures ∙ number-four c.args.bytes.now c.args.at)
