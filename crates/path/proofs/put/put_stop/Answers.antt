-- `path::put_stop` meets its contract: the part of the output from `at` on, as long as the record, is written whole.
use mathlib.Core.Path.{sym, ◌∙◌}
use native.Mathlib.Omega.{arith}
use Rattle.path.proofs.WrittenLaws.{length-stop_bytes, put-part}
use Rattle.path.proofs.put.put_stop.Goals as goal

pub returns : goal.returns
returns c =
    put-part _ _ _ _ _ (omega (arith, c.stop_size.ensures, c.requires)) (length-stop_bytes _ _ ∙ sym c.stop_size.ensures) c.put_record.ensures
