-- Laws of what a path is written as: the parts of each record, and their lengths.
use mathlib.Core.Path.{◌≡◌, refl, sym, ◌∙◌}
use mathlib.Core.List.{List, [], ◌∷◌, ◌++◌, append_assoc, append-nil}
use Prim.Native.Nat.{ℕ, ◌+◌, ◌-◌, ◌*◌, ◌^◌, ◌≤◌}
use native.Mathlib.Nat.{zero-mul, suc-mul, mul-le-mul_right}
use native.Mathlib.Omega.{arith}
use lib.IntN.{ℤ}
use lib.ListN.{length, take, drop, length-append}
use lib.Seq.{drop-drop}
use Rattle.base.specs.Outcome.{over}
use Rattle.base.proofs.Outcome.{over-whole}
use Rattle.base.proofs.Size.{pow-le-1024}
use Rattle.records.specs.Field.{bytes_of}
use Rattle.records.specs.Put.{put}
use Rattle.records.specs.Record.{record_bytes, record_length, later_fields}
use Rattle.records.proofs.FieldLaws.{length-bytes_of}
use Rattle.records.proofs.LengthLaws.{path-length, end-length}
use Rattle.records.proofs.PutLaws.{put-fits, put_front, put_two}
use Rattle.records.proofs.RecordLaws.{length-record_bytes}
use Rattle.records.proofs.Versions.{Layout, plain, blended, dwelling, layout}
use Rattle.stop.specs.declared.Stop.{Stop}
use Rattle.path.specs.Path.{stop_size, path_size}
use Rattle.path.specs.Written.{point_bytes, pace_bytes, stop_content, stop_bytes, stops_bytes, head_bytes, path_bytes}
use Rattle.path.proofs.StopFields.{explicit-content, explicit-pace, later_bytes}
use Rattle.path.proofs.PlaceLaws.{size-later, size-length, size-range, largest_stop}

-- ---- lengths

pub length-point : (point : List ℤ) → length (point_bytes point) ≡ 12
unfolding point_bytes
length-point point = rw (length-append, length-append, length-bytes_of, length-bytes_of, length-bytes_of)

pub length-pace : (version speed blend dwell : ℕ) → 16 + length (pace_bytes version speed blend dwell) ≡ stop_size version
unfolding later_fields
length-pace version speed blend dwell = rw (explicit-pace version speed blend dwell, size-later version) (by (layout version))
  where
    by : Layout version → 16 + length (bytes_of 2 speed ++ later_bytes version blend dwell) ≡ 18 + 2 * later_fields version
    by (plain p q) = rw p (simp (length-append, length-bytes_of))
    by (blended p q) = rw (p, q) (simp (length-append, length-bytes_of))
    by (dwelling p q) = rw (p, q) (simp (length-append, length-bytes_of))

pub length-content : (version : ℕ) (s : Stop) → 2 + length (stop_content version s) ≡ record_length 2 version 0
length-content version s =
    let p : length (point_bytes s.at) ≡ 12 = length-point s.at in
    let q : 16 + length (pace_bytes version s.speed s.blend s.dwell) ≡ stop_size version = length-pace version s.speed s.blend s.dwell in
    let z : stop_size version ≡ 2 + record_length 2 version 0 = size-length version in
    rw (explicit-content version s, length-append) (omega arith)

pub length-stop_bytes : (version : ℕ) (s : Stop) → length (stop_bytes version s) ≡ stop_size version
unfolding stop_bytes
length-stop_bytes version s =
    rw length-record_bytes (let c : 2 + length (stop_content version s) ≡ record_length 2 version 0 = length-content version s in omega (arith, size-length version))

pub length-stops_bytes : (version : ℕ) (ss : List Stop) → length (stops_bytes version ss) ≡ length ss * stop_size version
unfolding stops_bytes
length-stops_bytes version [] = rw zero-mul
length-stops_bytes version (s ∷ ss) =
    rw (length-append, length-stop_bytes, suc-mul, length-stops_bytes version ss) (omega arith)

pub length-head_bytes : (version k : ℕ) → length (head_bytes version k) ≡ 8
unfolding head_bytes
length-head_bytes version k = rw (length-record_bytes, length-append, length-bytes_of, length-bytes_of)

pub length-path_bytes : (version k : ℕ) (ss : List Stop) → length (path_bytes version k ss) ≡ 12 + length ss * stop_size version
unfolding path_bytes
length-path_bytes version k ss =
    rw (length-append, length-append, length-head_bytes, length-stops_bytes, length-record_bytes 3 []) (omega arith)

pub size_is : (version k : ℕ) → path_size version k ≡ 12 + 2 ^ k * stop_size version
unfolding path_size
size_is version k = refl

pub length-written : (version k : ℕ) (ss : List Stop) → length ss ≡ 2 ^ k → length (path_bytes version k ss) ≡ path_size version k
length-written version k ss e = length-path_bytes version k ss ∙ rw (e, size_is)

-- a path has at most 1,024 stops
pub bytes-range : (version k : ℕ) → k ≤ 10 → 2 ^ k * stop_size version ≤ 1024 * largest_stop
bytes-range version k h =
    let a : 2 ^ k * stop_size version ≤ 1024 * stop_size version = mul-le-mul_right (stop_size version) (pow-le-1024 k h) in
    omega (arith, size-range version)

-- so no path has more bytes than those, 8 of the head and 4 of the end
abbrev pub most_bytes : ℕ
most_bytes = 8 + 1024 * largest_stop + 4

-- ---- parts

pub head-parts : (version k : ℕ) → head_bytes version k ≡ bytes_of 2 (record_length 1 version 0) ++ bytes_of 2 1 ++ (bytes_of 2 version ++ bytes_of 2 k)
unfolding head_bytes record_bytes
head-parts version k = rw (length-append, length-bytes_of, length-bytes_of, path-length)

pub end-parts : record_bytes 3 [] ≡ bytes_of 2 (record_length 3 4 0) ++ bytes_of 2 3
unfolding record_bytes
end-parts = rw (append-nil, end-length)

content-parts : (version : ℕ) (s : Stop) (a : List ℕ) → a ++ stop_content version s ≡ a ++ point_bytes s.at ++ pace_bytes version s.speed s.blend s.dwell
content-parts version s a = rw (explicit-content version s) (sym (append_assoc a (point_bytes s.at) (pace_bytes version s.speed s.blend s.dwell)))

pub stop-parts : (version : ℕ) (s : Stop) → stop_bytes version s ≡ bytes_of 2 (record_length 2 version 0) ++ bytes_of 2 2 ++ point_bytes s.at ++ pace_bytes version s.speed s.blend s.dwell
unfolding stop_bytes record_bytes
stop-parts version s = rw (length-content version s) (content-parts version s (bytes_of 2 (record_length 2 version 0) ++ bytes_of 2 2))

-- what is put at the front is written over it
pub put-over : (s v : List ℕ) → length v ≤ length s → put s 0 v ≡ over v s
put-over s v h = put_front s v h

-- and what fills it all is all that is left
put_whole : (s v : List ℕ) → length v ≡ length s → put s 0 v ≡ v
put_whole s v e = put-over s v (omega arith) ∙ over-whole v s e

-- the parts of a stop's record: the start and the point put into 16 bytes, the pace into the others
pub stop-put : (version : ℕ) (s : Stop) (front rest t u r : List ℕ) → length front ≡ 16 → 16 + length rest ≡ stop_size version → t ≡ put front 0 (bytes_of 2 (record_length 2 version 0) ++ bytes_of 2 2) → u ≡ put t 4 (point_bytes s.at) → r ≡ put rest 0 (pace_bytes version s.speed s.blend s.dwell) → u ++ r ≡ stop_bytes version s
stop-put version s front rest t u r size size_rest et eu er =
    let start = bytes_of 2 (record_length 2 version 0) ++ bytes_of 2 2 in
    let pace = pace_bytes version s.speed s.blend s.dwell in
    let first : length start ≡ 4 = rw (length-append, length-bytes_of, length-bytes_of) in
    let second : length (point_bytes s.at) ≡ 12 = length-point s.at in
    let third : 16 + length pace ≡ stop_size version = length-pace version s.speed s.blend s.dwell in
    let eb : u ≡ start ++ point_bytes s.at = put_two front 0 start (point_bytes s.at) t u 4 (omega arith) (omega arith) et eu ∙ put_whole front (start ++ point_bytes s.at) (length-append start (point_bytes s.at) ∙ omega arith) in
    let ep : r ≡ pace = er ∙ put_whole rest pace (omega arith) in
    rw (eb, ep) (sym (stop-parts version s))

-- a part of a buffer that was written whole is put at its place
pub put-part : (s : List ℕ) (at size : ℕ) (v part : List ℕ) → at + size ≤ length s → length v ≡ size → part ≡ v → take at s ++ (part ++ drop (at + size - at) (drop at s)) ≡ put s at v
put-part s at size v part h n e =
    let here : at + size - at ≡ size = omega arith in
    rw (e, here, drop-drop size at s, put-fits s at v (omega arith), n, append_assoc)
