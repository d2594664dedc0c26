-- `order_file::write_order_file` meets its contract: everything is judged before a byte is written.
use mathlib.Core.Path.{◌≡◌, refl, sym, ap, ap₂, ◌∙◌}
use mathlib.Core.List.{List}
use Prim.Native.Nat.{ℕ, ◌^◌, ◌≤◌}
use native.Mathlib.Omega.{arith}
use lib.ListN.{length, take}
use lib.Seq.{length-take-le}
use Rattle.base.specs.Outcome.{over}
use Rattle.base.specs.Size.{stop_count}
use Rattle.base.proofs.Outcome.{over-front}
use Rattle.base.proofs.Size.{stop_count-pow}
use Rattle.records.specs.Put.{put}
use Rattle.records.proofs.FieldLaws.{length-bytes_of}
use Rattle.records.proofs.PutLaws.{put_front}
use Rattle.tree.specs.Total.{entry, total}
use Rattle.orders.specs.Allowed.{forks_of}
use Rattle.orders.specs.Bits.{byte_count, bit_string}
use Rattle.orders.specs.Lent.{order_in, JudgedOrder}
use Rattle.orders.proofs.Calls.{done-number}
use Rattle.order_file.specs.File.{order_file, file_for, file_size}
use Rattle.order_file.proofs.Bytes.{length-file_for}
use Rattle.order_file.proofs.Sizes.{true-sizes}
use Rattle.order_file.proofs.Calls.{Writes, write-judged, write-made}
use Rattle.order_file.proofs.write_order_file.Goals as goal

-- the bytes that were put are the file
written : (k sum : ℕ) (order table bits room out u : List ℕ) → JudgedOrder k order → file_size (2 ^ k) ≤ length out
    → sum ≡ total (entry (stop_count k) table) (take (stop_count k) order) → bits ≡ over (bit_string k (forks_of k (order_in k order))) room
    → u ≡ put out 0 (order_file k sum (order_in k order) (take (byte_count (2 ^ k)) bits)) → u ≡ over (file_for k (entry (2 ^ k) table) (order_in k order)) out
unfolding file_for
written k sum order table bits room out u j fits e f g =
    let o : List ℕ = order_in k order in
    let string : List ℕ = bit_string k (forks_of k o) in
    let t : sum ≡ total (entry (2 ^ k) table) o = e ∙ ap (λ (n : ℕ). total (entry n table) (take n order)) (stop_count-pow k j.small) in
    let s : take (byte_count (2 ^ k)) bits ≡ string = ap (take (byte_count (2 ^ k))) f ∙ over-front (byte_count (2 ^ k)) string room (length-bytes_of (byte_count (2 ^ k)) (forks_of k o)) in
    let file : List ℕ = file_for k (entry (2 ^ k) table) o in
    let long : length file ≡ file_size (2 ^ k) = length-file_for k (entry (2 ^ k) table) o (length-take-le (2 ^ k) order j.long) in
    g ∙ ap₂ (λ (x : ℕ) (y : List ℕ). put out 0 (order_file k x o y)) t s ∙ put_front out file (omega arith)

pub put_file-requires : goal.put_file-requires
put_file-requires c =
    let w = write-judged _ _ _ _ (done-number _ c.in_ok-judge_write.ensures.said) in
    (w.judged.small, w.judged.long, omega (arith, (true-sizes _ w.judged.small).few, c.judge_write.auto.bits), w.long)

pub returns : goal.returns
returns c =
    let a = c.args in
    let w : Writes a.k a.order.now a.table.now (length a.out.now) = write-judged _ _ _ _ (done-number _ c.in_ok-judge_write.ensures.said) in
    write-made _ _ a.table.now _ _ _ w
    (c.file_size.ensures ∙ ap file_size (stop_count-pow _ w.judged.small) ∙ sym (length-file_for _ _ _ (length-take-le _ a.order.now w.judged.long)))
    (written _ _ _ a.table.now _ _ _ _ w.judged w.long c.sum_moves.ensures (c.in_ok-judge_write.ensures.string refl) c.put_file.ensures)
