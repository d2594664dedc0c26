-- `order_file::put::put_stops` meets its contract: the record's first bytes, the total, the stops.
use mathlib.Core.Path.{◌≡◌}
use mathlib.Core.List.{List, ◌++◌}
use Prim.Native.Nat.{ℕ, ◌+◌, ◌*◌}
use native.Mathlib.Omega.{arith}
use lib.ListN.{length, length-append}
use Rattle.records.specs.Field.{bytes_of}
use Rattle.records.proofs.PutLaws.{put_two}
use Rattle.records.proofs.FieldLaws.{length-bytes_of}
use Rattle.records.proofs.LengthLaws.{stops-length}
use Rattle.order_file.specs.File.{stops_record, stops_bytes, stop_bytes}
use Rattle.order_file.proofs.Bytes.{length-stop_bytes}
use Rattle.order_file.proofs.Putting.{put-record}
use Rattle.order_file.proofs.put.put_stops.Goals as goal

pub returns : goal.returns
unfolding stops_bytes
returns c =
    let order : List ℕ = c.args.order.now in
    let sum : List ℕ = bytes_of 8 c.args.total in
    let eight : length sum ≡ 8 = length-bytes_of 8 _ in
    let rest : length (stop_bytes order) ≡ 2 * length order = length-stop_bytes order in
    let content : length (sum ++ stop_bytes order) ≡ 8 + 2 * length order = rw length-append (omega arith) in
    put-record c.args.out.now stops_record 5 _ (sum ++ stop_bytes order) _ _ 10 (omega (arith, content, stops-length 5 0)) (omega (arith, content, c.requires.1)) (omega arith) c.put_record.ensures
    (put_two c.put_record.new.out 10 sum (stop_bytes order) _ _ 18 (omega (arith, c.requires.1, c.put_record.auto.out)) (omega arith) c.put64.ensures c.put_order.ensures)
