-- `order_file::put::put_file` meets its contract: the four records, one after the other.
use mathlib.Core.Path.{◌≡◌, ap, ◌∙◌}
use mathlib.Core.List.{List, ◌++◌}
use Prim.Native.Nat.{ℕ, ◌+◌, ◌*◌, ◌^◌, ◌≤◌}
use native.Mathlib.Omega.{arith}
use lib.ListN.{length, take, length-append}
use lib.Seq.{length-take-le}
use Rattle.base.proofs.Size.{stop_count-pow}
use Rattle.records.specs.Put.{put}
use Rattle.records.proofs.PutLaws.{put_two, put_three}
use Rattle.orders.specs.Bits.{byte_count}
use Rattle.orders.specs.Lent.{order_in}
use Rattle.order_file.specs.File.{head_bytes, stops_bytes, forks_bytes, end_bytes, order_file, stops_record, forks_place, end_place, file_size}
use Rattle.order_file.proofs.Bytes.{length-head, length-stops, length-forks, length-end}
use Rattle.order_file.proofs.put.put_file.Goals as goal

-- the four records make the file
written : (k n sum : ℕ) (order string out t u v w : List ℕ) → n ≡ 2 ^ k → 2 ^ k ≤ length order → length string ≡ byte_count (2 ^ k) → file_size (2 ^ k) ≤ length out
    → t ≡ put out 0 (head_bytes k) → u ≡ put t stops_record (stops_bytes sum (take n order)) → v ≡ put u (forks_place (2 ^ k)) (forks_bytes string) → w ≡ put v (end_place (2 ^ k)) end_bytes
    → w ≡ put out 0 (order_file k sum (order_in k order) string)
unfolding order_file
written k n sum order string out t u v w e long bytes room a b c d =
    let o : List ℕ = take n order in
    let h : List ℕ = head_bytes k in
    let s : List ℕ = stops_bytes sum o in
    let f : List ℕ = forks_bytes string in
    let lh : length h ≡ 6 = length-head k in
    let ls : length s ≡ 12 + 2 * n = length-stops sum o ∙ ap (λ (x : ℕ). 12 + 2 * x) (length-take-le n order (omega arith)) in
    let lf : length f ≡ 4 + byte_count (2 ^ k) = length-forks string ∙ ap (λ (x : ℕ). 4 + x) bytes in
    let three : v ≡ put out 0 (h ++ s ++ f) = put_three out 0 h s f t u v stops_record (forks_place (2 ^ k)) (omega arith) (omega arith) (omega arith) a b c in
    let size : length (h ++ s ++ f) ≡ end_place (2 ^ k) = rw (length-append, length-append) (omega arith) in
    put_two out 0 (h ++ s ++ f) end_bytes v w (end_place (2 ^ k)) (omega (arith, length-end)) (omega arith) three d
    ∙ ap (λ (x : ℕ). put out 0 (h ++ stops_bytes sum (take x order) ++ f ++ end_bytes)) e

pub returns : goal.returns
returns c =
    let count : c.stop_count.result ≡ 2 ^ c.args.k = c.stop_count.ensures ∙ stop_count-pow _ c.requires.0 in
    written _ _ _ c.args.order.now _ c.args.out.now _ _ _ _ count c.requires.1 (length-take-le _ c.args.bits.now c.requires.2) c.requires.3
    c.put_head.ensures c.put_stops.ensures c.put_forks.ensures c.put_end.ensures
