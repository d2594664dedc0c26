-- Laws of the records put one after the other into a buffer.
use mathlib.Core.Path.{◌≡◌, sym, ap, ◌∙◌}
use mathlib.Core.List.{List, ◌++◌}
use Prim.Native.Nat.{ℕ, ◌+◌, ◌*◌, ◌≤◌, ◌<◌}
use native.Mathlib.Numerals.{add-one}
use native.Mathlib.Omega.{arith}
use lib.ListN.{length, get_or, take, length-append}
use lib.Seq.{take-suc, length-take-le}
use Rattle.records.specs.Field.{bytes_of}
use Rattle.records.specs.Put.{put}
use Rattle.records.specs.Record.{record_bytes}
use Rattle.records.proofs.PutLaws.{put_two}
use Rattle.records.proofs.FieldLaws.{length-bytes_of}
use Rattle.order_file.specs.File.{stop_bytes}
use Rattle.order_file.proofs.Bytes.{length-stop_bytes, stop_bytes-snoc}

-- a record's first bytes and its content make it
pub record-parts : (kind long : ℕ) (content : List ℕ) → long ≡ 2 + length content → bytes_of 2 long ++ bytes_of 2 kind ++ content ≡ record_bytes kind content
unfolding record_bytes
record-parts kind long content e = rw e

-- so a record is put by its first bytes and then its content
pub put-record : (out : List ℕ) (at kind long : ℕ) (content t u : List ℕ) (next : ℕ) → long ≡ 2 + length content → at + (4 + length content) ≤ length out → next ≡ at + 4
    → t ≡ put out at (bytes_of 2 long ++ bytes_of 2 kind) → u ≡ put t next content → u ≡ put out at (record_bytes kind content)
put-record out at kind long content t u next e fits n f g =
    let four : length (bytes_of 2 long ++ bytes_of 2 kind) ≡ 4 = rw (length-append, length-bytes_of, length-bytes_of) in
    put_two out at (bytes_of 2 long ++ bytes_of 2 kind) content t u next (omega (arith, four)) (omega (arith, four)) f g ∙ ap (put out at) (record-parts kind long content e)

-- one stop more
pub stop-more : (order : List ℕ) (p : ℕ) → p < length order → stop_bytes (take p order) ++ bytes_of 2 (get_or order p 0) ≡ stop_bytes (take (p + 1) order)
stop-more order p h = rw (add-one p, take-suc order p 0 h) (sym (stop_bytes-snoc (take p order) (get_or order p 0)))

-- the bytes of the first p stops
pub length-first : (order : List ℕ) (p : ℕ) → p ≤ length order → length (stop_bytes (take p order)) ≡ 2 * p
length-first order p h = length-stop_bytes (take p order) ∙ ap (λ (x : ℕ). 2 * x) (length-take-le p order h)
