-- `path::put_start` meets its contract.
use native.Mathlib.Omega.{arith}
use Rattle.records.proofs.LengthLaws.{length-small}
use Rattle.records.specs.Kind.{kind_number}
use Rattle.path.proofs.put.put_start.Goals as goal

pub overflow_cast-length : goal.overflow_cast-length
overflow_cast-length c = rw c.length.ensures (record { fits = let h = length-small (kind_number c.args.kind) c.args.version in omega arith })
