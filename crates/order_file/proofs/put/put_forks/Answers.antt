-- `order_file::put::put_forks` meets its contract: the record's first bytes, then the string.
use mathlib.Core.Path.{◌≡◌, refl, sym, ap, ◌∙◌}
use mathlib.Core.List.{List, ◌++◌, append_assoc}
use Prim.Native.Nat.{ℕ, ◌+◌, ◌-◌, ◌^◌, ◌≤◌}
use native.Mathlib.Omega.{arith}
use lib.ListN.{length, take, drop}
use borrow.Rule.Slice.PartMut.{put_mid}
use lib.Seq.{length-take-le, drop-drop}
use Rattle.base.specs.Size.{max_k, stop_count}
use Rattle.base.proofs.Size.{stop_count-pow}
use Rattle.records.specs.Field.{bytes_of}
use Rattle.records.specs.Put.{put}
use Rattle.records.specs.Record.{record_length, record_bytes}
use Rattle.records.proofs.PutLaws.{put-fits}
use Rattle.records.proofs.LengthLaws.{forks-length}
use Rattle.orders.specs.Bits.{byte_count}
use Rattle.orders.proofs.Size.{byte_count-is}
use Rattle.order_file.specs.File.{forks_bytes, forks_place, end_place}
use Rattle.order_file.proofs.Putting.{put-record}
use Rattle.order_file.proofs.put.put_forks.Goals as goal

-- the record in its place
written : (k at m long : ℕ) (bits out t u : List ℕ) → at ≡ forks_place (2 ^ k) → m ≡ byte_count (2 ^ k) → long ≡ 2 + m → m ≤ length bits → end_place (2 ^ k) ≤ length out
    → t ≡ put out at (bytes_of 2 long ++ bytes_of 2 6) → u ≡ put t (at + 4) (take m bits) → u ≡ put out (forks_place (2 ^ k)) (forks_bytes (take (byte_count (2 ^ k)) bits))
unfolding forks_bytes
written k at m long bits out t u e f g fits room a b =
    let size : length (take m bits) ≡ m = length-take-le m bits fits in
    put-record out at 6 long (take m bits) t u (at + 4) (omega (arith, size)) (omega (arith, size)) refl a b
    ∙ ap (λ (x : ℕ). put out x (record_bytes 6 (take m bits))) e
    ∙ ap (λ (x : ℕ). put out (forks_place (2 ^ k)) (forks_bytes (take x bits))) f

-- the string ends within the buffer
fits-in : (k at n : ℕ) (out out' : List ℕ) → k ≤ max_k → at ≡ forks_place (stop_count k) → n ≡ byte_count (stop_count k) → end_place (2 ^ k) ≤ length out → length out' ≡ length out
    → at + 4 + n ≤ length out'
fits-in k at n out out' small e f room same = omega (arith, stop_count-pow k small, byte_count-is k small)

-- the part that was copied to is put
copied : (at n : ℕ) (out bits part : List ℕ) → at + n ≤ length out → n ≤ length bits → part ≡ take n bits → put_mid at (at + n - at) out part ≡ put out at (take n bits)
copied at n out bits part fits long e =
    let width : at + n - at ≡ n = omega arith in
    let size : length (take n bits) ≡ n = length-take-le n bits long in
    rw (width, e, drop-drop n at out)
    (ap (λ (x : ℕ). take at out ++ (take n bits ++ drop (at + x) out)) (sym size)
    ∙ sym (append_assoc (take at out) (take n bits) (drop (at + length (take n bits)) out))
    ∙ sym (put-fits out at (take n bits) (rw size fits)))

pub returns : goal.returns
returns c =
    let place : c.forks_place-at.result ≡ forks_place (2 ^ c.args.k) = c.forks_place-at.ensures ∙ ap forks_place (stop_count-pow _ c.requires.0) in
    let count : c.byte_count-count.result ≡ byte_count (2 ^ c.args.k) = c.byte_count-count.ensures ∙ byte_count-is _ c.requires.0 in
    let long : record_length 6 5 0 + c.byte_count-count.result ≡ 2 + c.byte_count-count.result = omega (arith, forks-length 5 0) in
    let fits : c.forks_place-at.result + 4 + c.byte_count-count.result ≤ length c.put_record.new.out = fits-in c.args.k _ _ _ _ c.requires.0 c.forks_place-at.ensures c.byte_count-count.ensures c.requires.2 c.put_record.auto.out in
    written _ _ _ _ c.args.bits.now c.args.out.now _ _ place count long (omega (arith, count, c.requires.1)) c.requires.2 c.put_record.ensures
    (copied (c.forks_place-at.result + 4) c.byte_count-count.result c.put_record.new.out c.args.bits.now c.copy_from_slice.new.self fits (omega (arith, count, c.requires.1)) c.copy_from_slice.ensures.after)
