-- The round trips: what was written reads as the same path; what was read is written as the same bytes; and the same stops written in another
-- version that holds them mean the same.
use mathlib.Core.Path.{◌≡◌, refl, sym, ap, ◌∙◌}
use mathlib.Core.Bool.{true, false}
use mathlib.Core.List.{List, [], ◌∷◌, ◌++◌, append_assoc, append-nil}
use Prim.Native.Nat.{ℕ, zero, suc, ◌+◌, ◌-◌, ◌*◌, ◌^◌, ◌≤◌}
use native.Mathlib.Nat.{zero-mul, suc-mul}
use native.Mathlib.Omega.{arith}
use lib.Dec.{leb}
use lib.ListN.{length, take, drop, length-append, length-drop, take-append-drop}
use lib.Seq.{take_at, drop_at, take_all}
use borrow.Author.Tests.{leb-true}
use Rattle.base.specs.Outcome.{Outcome, gives, and_then, giving}
use Rattle.records.specs.Field.{number_of, bytes_of, are_bytes}
use Rattle.records.specs.Record.{record_length, record_bytes, is_kind, take_record, Taken, taken, oldest_version}
use Rattle.records.proofs.FieldLaws.{length-bytes_of, number-bytes_of, are_bytes-take, are_bytes-drop}
use Rattle.records.proofs.LengthLaws.{path-length, end-length, length-small}
use Rattle.records.proofs.RecordLaws.{take-written, taken-written, taken-whole}
use Rattle.stop.specs.declared.Stop.{Stop}
use Rattle.stop.specs.Stop.{in_range, judge_stop}
use Rattle.stop.specs.Lent.{all_in_range}
use Rattle.base.proofs.Bools.{and_left, and_right, or_left, or_right}
use Rattle.path.specs.Path.{path_head, path, read_head, head_of, read_path, read_body, stop_of, stop_then, end_of, newest_version, known_version, stop_size, path_size}
use Rattle.path.specs.Written.{stop_content, stop_bytes, stops_bytes, head_bytes, path_bytes, loses_field, loses_any}
use Rattle.path.proofs.BodyLaws.{body-zero, body-suc}
use Rattle.path.proofs.HeadLaws.{fields-good}
use Rattle.path.proofs.Inverse.{next_of, ended_of, accepted-of, opened_of}
use Rattle.path.proofs.PlaceLaws.{size-length, size-range}
use Rattle.path.proofs.JudgeLaws.{path-body}
use Rattle.path.proofs.StopFields.{field-kept, newer-field}
use Rattle.path.proofs.StopRound.{stop-back, content-back, plain_back}
use Rattle.path.proofs.WrittenLaws.{length-content, size_is}

-- the kinds of a path's records are kinds
path-kind : is_kind 1 ≡ true
unfolding is_kind
path-kind = refl

stop-kind : is_kind 2 ≡ true
unfolding is_kind
stop-kind = refl

end-kind : is_kind 3 ≡ true
unfolding is_kind
end-kind = refl

-- a known version is a small number
pub known_small : (version : ℕ) → known_version version ≡ true → version ≤ newest_version
unfolding known_version
known_small version e = leb-true _ _ (and_right (leb oldest_version version) (leb version newest_version) e)

-- ---- written, then read

head-back : (version k highest : ℕ) (rest : List ℕ) → known_version highest ≡ true → known_version version ≡ true → version ≤ highest → k ≤ 10 → read_head (head_bytes version k ++ rest) highest ≡ gives (path_head version k rest)
unfolding read_head head_of head_bytes
head-back version k highest rest kh kv le small =
    let content = bytes_of 2 version ++ bytes_of 2 k in
    let long : record_length 1 highest 0 ≡ 2 + length content = rw (path-length, length-append, length-bytes_of, length-bytes_of) in
    let v : number_of (take 2 content) ≡ version =
    rw (take_at (bytes_of 2 version) (bytes_of 2 k) 2 (length-bytes_of 2 version)) (number-bytes_of 2 version (omega (arith, known_small version kv))) in
    let n : number_of (take 2 (drop 2 content)) ≡ k =
    rw (drop_at (bytes_of 2 version) (bytes_of 2 k) 2 (length-bytes_of 2 version), take_all 2 (bytes_of 2 k) (rw length-bytes_of (omega arith)))
    (number-bytes_of 2 k (omega arith)) in
    rw kh
    (ap (λ (t : Outcome Taken). and_then t (head_of highest)) (take-written 1 content rest (record_length 1 highest 0) path-kind long (omega (arith, length-small 1 highest)))
    ∙ rw (v, n) (fields-good highest version k rest kv le small))

end_back : (version : ℕ) → read_body version 0 (record_bytes 3 []) ≡ gives []
unfolding end_of
end_back version =
    body-zero version (record_bytes 3 [])
    ∙ ap (λ (t : Outcome Taken). and_then t end_of) (rw append-nil at (take-written 3 [] [] (record_length 3 version 0) end-kind (end-length version) (omega (arith, length-small 3 version))))

pub body_back : (version : ℕ) (ss : List Stop) → all_in_range ss ≡ true → loses_any version ss ≡ false → read_body version (length ss) (stops_bytes version ss ++ record_bytes 3 []) ≡ gives ss
unfolding stops_bytes stop_bytes all_in_range loses_any stop_then judge_stop
body_back version [] r l = end_back version
body_back version (s ∷ ss) r l =
    let rest = stops_bytes version ss ++ record_bytes 3 [] in
    let content = stop_content version s in
    let range : in_range s ≡ true = and_left (in_range s) (all_in_range ss) r in
    let back : stop_of version content ≡ s = stop-back version s range (or_left (loses_field version s) (loses_any version ss) l) in
    let parts : record_bytes 2 content ++ stops_bytes version ss ++ record_bytes 3 [] ≡ record_bytes 2 content ++ rest =
    append_assoc (record_bytes 2 content) (stops_bytes version ss) (record_bytes 3 []) in
    let whole : take_record 2 (record_length 2 version 0) (record_bytes 2 content ++ rest) ≡ gives (taken content rest) =
    take-written 2 content rest (record_length 2 version 0) stop-kind (sym (length-content version s)) (omega (arith, length-small 2 version)) in
    body-suc version (length ss) _
    ∙ ap (λ (t : Outcome Taken). and_then t (stop_then version (read_body version (length ss)))) (ap (take_record 2 (record_length 2 version 0)) parts ∙ whole)
    ∙ rw (back, range) (ap (giving (λ others. s ∷ others)) (body_back version ss (and_right (in_range s) (all_in_range ss) r) (or_right (loses_field version s) (loses_any version ss) l)))

-- 'reading what was written': stops in range, 2^k of them, that lose no field in the version
pub read-written : (version k highest : ℕ) (test : ℕ → Outcome Unit) (ss : List Stop) → known_version highest ≡ true → known_version version ≡ true → version ≤ highest → k ≤ 10 → test k ≡ gives tt → length ss ≡ 2 ^ k → all_in_range ss ≡ true → loses_any version ss ≡ false → read_path (path_bytes version k ss) highest test ≡ gives (path version k ss)
unfolding path_bytes
read-written version k highest test ss kh kv le small fits count range kept =
    let rest = stops_bytes version ss ++ record_bytes 3 [] in
    rw (append_assoc (head_bytes version k) (stops_bytes version ss) (record_bytes 3 []))
    (path-body (head_bytes version k ++ rest) highest test version k rest (head-back version k highest rest kh kv le small) fits
    ∙ rw (← count) (ap (giving (path version k)) (body_back version ss range kept)))

-- ---- read, then written

-- the body that stops were read from
pub body-forth : (version n : ℕ) (s : List ℕ) (ss : List Stop) → are_bytes s ≡ true → read_body version n s ≡ gives ss → s ≡ stops_bytes version ss ++ record_bytes 3 []
unfolding stops_bytes stop_bytes
body-forth version zero s ss bytes e =
    let d = ended_of version s ss e in
    let w = taken-written 3 (record_length 3 version 0) s d.content [] bytes (omega (arith, end-length version)) d.whole in
    let none : d.content ≡ [] = empty d.content (omega (arith, w.1, end-length version)) in
    w.0 ∙ rw (none, append-nil, d.list)
  where
    empty : (l : List ℕ) → length l ≡ 0 → l ≡ []
    empty [] h = refl
    empty (x ∷ l) h = absurd (omega arith)
body-forth version (suc n) s ss bytes e =
    let x = next_of version n s ss e in
    let two : 2 ≤ record_length 2 version 0 = omega (arith, size-range version, size-length version) in
    let w = taken-written 2 (record_length 2 version 0) s x.content x.rest bytes two x.whole in
    let t = taken-whole 2 (record_length 2 version 0) s x.content x.rest x.whole in
    let inner : are_bytes x.content ≡ true = rw t.content-is (are_bytes-take (record_length 2 version 0 - 2) (drop 4 s) (are_bytes-drop 4 s bytes)) in
    let outer : are_bytes x.rest ≡ true = rw t.rest-is (are_bytes-drop (2 + record_length 2 version 0) s bytes) in
    let back : stop_content version (stop_of version x.content) ≡ x.content = content-back x.content inner version w.1 in
    let rest : x.rest ≡ stops_bytes version x.others ++ record_bytes 3 [] = body-forth version n x.rest x.others outer x.after in
    w.0
    ∙ ap (λ (r : List ℕ). record_bytes 2 x.content ++ r) rest
    ∙ ap (λ (c : List ℕ). record_bytes 2 c ++ (stops_bytes version x.others ++ record_bytes 3 [])) (sym back)
    ∙ sym (append_assoc (record_bytes 2 (stop_content version (stop_of version x.content))) (stops_bytes version x.others) (record_bytes 3 []))
    ∙ ap (λ (l : List Stop). stops_bytes version l ++ record_bytes 3 []) (sym x.list)

-- the head that a version and k were read from
head-forth : (bytes rest : List ℕ) (highest version k : ℕ) → are_bytes bytes ≡ true → read_head bytes highest ≡ gives (path_head version k rest) → bytes ≡ head_bytes version k ++ rest
unfolding head_bytes
head-forth bytes rest highest version k b e =
    let o = opened_of bytes highest version k rest e in
    let six : record_length 1 highest 0 ≡ 6 = path-length highest in
    let w = taken-written 1 (record_length 1 highest 0) bytes o.content rest b (omega arith) o.whole in
    let t = taken-whole 1 (record_length 1 highest 0) bytes o.content rest o.whole in
    let inner : are_bytes o.content ≡ true = rw t.content-is (are_bytes-take (record_length 1 highest 0 - 2) (drop 4 bytes) (are_bytes-drop 4 bytes b)) in
    let four : length o.content ≡ 4 = omega (arith, w.1) in
    let first : bytes_of 2 version ≡ take 2 o.content = ap (bytes_of 2) (sym o.version-is) ∙ plain_back o.content inner 2 0 (omega arith) in
    let second : bytes_of 2 k ≡ drop 2 o.content =
    ap (bytes_of 2) (sym o.k-is) ∙ plain_back o.content inner 2 2 (omega arith) ∙ take_all 2 (drop 2 o.content) (rw length-drop (omega arith)) in
    w.0 ∙ ap (λ (c : List ℕ). record_bytes 1 c ++ rest) (sym (rw (first, second) (take-append-drop 2 o.content)))

-- 'writing what was read in the same version gives the bytes again'
pub write_read : (bytes : List ℕ) (highest : ℕ) (test : ℕ → Outcome Unit) (version k : ℕ) (ss : List Stop) → are_bytes bytes ≡ true → read_path bytes highest test ≡ gives (path version k ss) → path_bytes version k ss ≡ bytes
unfolding path_bytes
write_read bytes highest test version k ss b e =
    let a = accepted-of bytes highest test version k ss e in
    append_assoc (head_bytes version k) (stops_bytes version ss) (record_bytes 3 [])
    ∙ ap (λ (r : List ℕ). head_bytes version k ++ r) (sym (body-forth version (2 ^ k) (drop 8 bytes) ss (are_bytes-drop 8 bytes b) a.body))
    ∙ sym (head-forth bytes (drop 8 bytes) highest version k b a.opened)

-- ---- what is known of stops that were read

-- so many stops, each in range, none with a field that the version lacks, in just these bytes
pub record Facts (version n : ℕ) (s : List ℕ) (ss : List Stop) : Type 0 where
  pub count : length ss ≡ n
  pub range : all_in_range ss ≡ true
  pub kept : loses_any version ss ≡ false
  pub size : length s ≡ n * stop_size version + 4

pub body-facts : (version n : ℕ) (s : List ℕ) (ss : List Stop) → read_body version n s ≡ gives ss → Facts version n s ss
unfolding all_in_range loses_any
body-facts version zero s ss e =
    let d = ended_of version s ss e in
    let t = taken-whole 3 (record_length 3 version 0) s d.content [] d.whole in
    let two : record_length 3 version 0 ≡ 2 = end-length version in
    let none : 0 ≡ length s - (2 + record_length 3 version 0) = ap length t.rest-is ∙ length-drop (2 + record_length 3 version 0) s in
    let long : 2 + record_length 3 version 0 ≤ length s = t.enough in
    let list : ss ≡ [] = d.list in
    record { count = ap length list; range = ap all_in_range list; kept = ap (loses_any version) list; size = rw zero-mul (omega arith) }
body-facts version (suc n) s ss e =
    let x = next_of version n s ss e in
    let f = body-facts version n x.rest x.others x.after in
    let t = taken-whole 2 (record_length 2 version 0) s x.content x.rest x.whole in
    let st = stop_of version x.content in
    let list : ss ≡ st ∷ x.others = x.list in
    let part : length x.rest ≡ length s - (2 + record_length 2 version 0) = ap length t.rest-is ∙ length-drop (2 + record_length 2 version 0) s in
    let enough : 2 + record_length 2 version 0 ≤ length s = t.enough in
    let size : stop_size version ≡ 2 + record_length 2 version 0 = size-length version in
    let before : length x.rest ≡ n * stop_size version + 4 = f.size in
    record {
      count = ap length list ∙ ap suc f.count;
      range = ap all_in_range list ∙ rw (x.good, f.range);
      kept = ap (loses_any version) list ∙ rw (field-kept version x.content, f.kept);
      size = rw suc-mul (omega arith);
    }

-- an accepted path has exactly its version's and its k's bytes
pub accepted-size : (bytes : List ℕ) (highest : ℕ) (test : ℕ → Outcome Unit) (version k : ℕ) (ss : List Stop) → read_path bytes highest test ≡ gives (path version k ss) → length bytes ≡ path_size version k
accepted-size bytes highest test version k ss e =
    let a = accepted-of bytes highest test version k ss e in
    let f = body-facts version (2 ^ k) (drop 8 bytes) ss a.body in
    let rest : length (drop 8 bytes) ≡ length bytes - 8 = length-drop 8 bytes in
    let long : 8 ≤ length bytes = a.long in
    let size : length (drop 8 bytes) ≡ 2 ^ k * stop_size version + 4 = f.size in
    rw size_is (omega arith)

-- ---- another version

pub newer-any : (version to : ℕ) (ss : List Stop) → version ≤ to → loses_any version ss ≡ false → loses_any to ss ≡ false
unfolding loses_any
newer-any version to [] h e = refl
newer-any version to (s ∷ ss) h e =
    rw (newer-field version to s h (or_left (loses_field version s) (loses_any version ss) e))
    (newer-any version to ss h (or_right (loses_field version s) (loses_any version ss) e))

-- a path that was read, written in a version that holds its stops, means the same stops
pub rewritten : (bytes : List ℕ) (highest : ℕ) (test : ℕ → Outcome Unit) (version k : ℕ) (ss : List Stop) (to known-to : ℕ) → read_path bytes highest test ≡ gives (path version k ss) → known_version known-to ≡ true → known_version to ≡ true → to ≤ known-to → loses_any to ss ≡ false → read_path (path_bytes to k ss) known-to test ≡ gives (path to k ss)
rewritten bytes highest test version k ss to known-to e kh kt le kept =
    let a = accepted-of bytes highest test version k ss e in
    let f = body-facts version (2 ^ k) (drop 8 bytes) ss a.body in
    read-written to k known-to test ss kh kt le a.small a.takes f.count f.range kept

-- and every newer version holds them
pub newer-rewritten : (bytes : List ℕ) (highest : ℕ) (test : ℕ → Outcome Unit) (version k : ℕ) (ss : List Stop) (to known-to : ℕ) → read_path bytes highest test ≡ gives (path version k ss) → known_version known-to ≡ true → known_version to ≡ true → version ≤ to → to ≤ known-to → read_path (path_bytes to k ss) known-to test ≡ gives (path to k ss)
newer-rewritten bytes highest test version k ss to known-to e kh kt newer le =
    let a = accepted-of bytes highest test version k ss e in
    let f = body-facts version (2 ^ k) (drop 8 bytes) ss a.body in
    rewritten bytes highest test version k ss to known-to e kh kt le (newer-any version to ss newer f.kept)
