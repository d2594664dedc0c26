-- `order_file::put::put_head` meets its contract.
use native.Mathlib.Omega.{arith}
use Rattle.records.specs.Field.{bytes_of}
use Rattle.records.proofs.FieldLaws.{length-bytes_of}
use Rattle.records.proofs.LengthLaws.{order-length}
use Rattle.order_file.specs.File.{head_bytes}
use Rattle.order_file.proofs.Putting.{put-record}
use Rattle.order_file.proofs.put.put_head.Goals as goal

pub returns : goal.returns
unfolding head_bytes
returns c =
    let two = length-bytes_of 2 c.args.k in
    put-record c.args.out.now 0 4 _ (bytes_of 2 c.args.k) _ _ 4 (omega (arith, two, order-length 5)) (omega (arith, two, c.requires)) (omega arith) c.put_record.ensures c.put16.ensures
