-- `order_file::put::put_order` meets its contract: the stops passed are put.
use mathlib.Core.Path.{◌≡◌, sym, ap, ◌∙◌}
use mathlib.Core.List.{List}
use Prim.Native.Nat.{ℕ, ◌+◌, ◌*◌, ◌<◌}
use native.Mathlib.Omega.{arith}
use lib.ListN.{length, get_or, take}
use Rattle.records.specs.Field.{bytes_of}
use Rattle.records.specs.Put.{put}
use Rattle.records.proofs.PutLaws.{put_two, put-none}
use Rattle.records.proofs.FieldLaws.{length-bytes_of}
use Rattle.order_file.specs.File.{stops_place, stop_bytes}
use Rattle.order_file.proofs.Putting.{stop-more, length-first}
use Rattle.order_file.proofs.put.put_order.Goals as goal

pub loop-p-init : goal.loop-p-init
unfolding stop_bytes
loop-p-init c = sym (put-none c.args.out.now stops_place (omega (arith, c.requires.1)))

pub loop-p-preserved : goal.loop-p-preserved
loop-p-preserved c =
    let l = c.loop-p in let p : ℕ = l.p in
    let order : List ℕ = c.args.order.now in
    let out : List ℕ = c.args.out.now in
    let b : p < length order = omega arith in
    let long : length (stop_bytes (take p order)) ≡ 2 * p = length-first order p (omega arith) in
    let two : length (bytes_of 2 (get_or order p 0)) ≡ 2 = length-bytes_of 2 _ in
    put_two out stops_place (stop_bytes (take p order)) (bytes_of 2 (get_or order p 0)) l.out _ (18 + 2 * p) (omega (arith, c.requires.1)) (omega arith) l.invariant c.put16.ensures ∙ ap (put out stops_place) (stop-more order p b)
