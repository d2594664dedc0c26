-- `path::put_head` meets its contract: the record's start, and its two fields.
use native.Mathlib.Omega.{arith}
use mathlib.Core.List.{◌++◌}
use lib.ListN.{length-append}
use Rattle.records.specs.Field.{bytes_of}
use Rattle.records.proofs.FieldLaws.{length-bytes_of}
use Rattle.records.specs.Record.{record_length}
use Rattle.records.proofs.PutLaws.{put_two}
use Rattle.path.proofs.WrittenLaws.{head-parts}
use Rattle.path.proofs.put.put_head.Goals as goal

pub returns : goal.returns
returns c =
    let a = c.args in rw head-parts
    (put_two a.out.now 0 (bytes_of 2 (record_length 1 a.version 0) ++ bytes_of 2 1) (bytes_of 2 a.version ++ bytes_of 2 a.k) _ _ 4
    (rw (length-append, length-append, length-bytes_of, length-bytes_of, length-bytes_of, length-bytes_of) (omega arith))
    (rw (length-append, length-bytes_of, length-bytes_of))
    c.put_start.ensures
    c.put_pair.ensures)
