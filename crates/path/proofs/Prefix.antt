-- A caller that takes paths of at most N bytes needs to look at N + 1 bytes of its input: what comes after them cannot change the outcome. For
-- callers that take k up to some limit N follows from the limit (`longer-read`).
use mathlib.Core.Path.{◌≡◌, refl, sym, ap, ◌∙◌}
use mathlib.Core.Bool.{Bool, true, false, ◌&&◌}
use mathlib.Core.List.{List, [], ◌∷◌}
use Prim.Native.Nat.{ℕ, zero, suc, ◌+◌, ◌-◌, ◌*◌, ◌^◌, ◌≤◌, ◌<◌}
use native.Mathlib.Decide.{dec_le}
use native.Mathlib.Nat.{le_trans, mul-le-mul_left, mul-le-mul_right, zero-mul, suc-mul, sub-zero, suc-sub-suc}
use native.Mathlib.Omega.{arith}
use lib.Dec.{leb, eqb}
use lib.ListN.{length, take, drop, length-drop}
use lib.Pow.{pow_mono}
use lib.Seq.{length-take-le, take-take, take-nil, take_all}
use borrow.Author.Tests.{le-leb, ne_eqb}
use Rattle.base.specs.Outcome.{Outcome, gives, refuses, need, and_then, giving}
use Rattle.records.specs.Field.{number_of}
use Rattle.records.specs.Record.{record_length, take_record, Taken, taken, kind_said, length_said, is_due}
use Rattle.records.proofs.LengthLaws.{path-length, end-length}
use Rattle.records.proofs.RecordLaws.{by-taken}
use Rattle.path.specs.Path.{PathHead, path_head, path, read_head, head_of, head_fields, read_on, read_path, read_body, stop_then, end_of, known_version, stop_size, path_size}
use Rattle.path.proofs.HeadLaws.{Seen, good-head, bad-head, head-seen}
use Rattle.path.proofs.PlaceLaws.{window, size-length, size-range, largest_stop}
use Rattle.path.proofs.WrittenLaws.{size_is}

drop-take : (n m : ℕ) (l : List ℕ) → drop n (take m l) ≡ take (m - n) (drop n l)
drop-take zero m l = rw sub-zero
drop-take (suc n) zero l = let z : 0 - suc n ≡ 0 = omega arith in rw z
drop-take (suc n) (suc m) [] = sym (take-nil (suc m - suc n))
drop-take (suc n) (suc m) (x ∷ l) = rw suc-sub-suc (drop-take n m l)

-- the same record with less after it
abbrev shorter : ℕ → Outcome Taken → Outcome Taken
shorter m o = giving (λ t. taken t.content (take m t.rest)) o

record-prefix : (kind long m : ℕ) (s : List ℕ) → 4 ≤ m → 2 + long ≤ m → m ≤ length s → take_record kind long (take m s) ≡ shorter (m - (2 + long)) (take_record kind long s)
unfolding take_record kind_said length_said
record-prefix kind long m s four fits size =
    let cut : length (take m s) ≡ m = length-take-le m s size in
    let content : take (long - 2) (drop 4 (take m s)) ≡ take (long - 2) (drop 4 s) = window (long - 2) 4 m s (omega arith) in
    let kind-is : take 2 (drop 2 (take m s)) ≡ take 2 (drop 2 s) = window 2 2 m s (omega arith) in
    let long-is : take 2 (take m s) ≡ take 2 s = take-take 2 m s (omega arith) in
    let rest : drop (2 + long) (take m s) ≡ take (m - (2 + long)) (drop (2 + long) s) = drop-take (2 + long) m s in
    rw (cut, le-leb 4 m four, le-leb 4 (length s) (omega arith), kind-is, long-is, content, rest, le-leb (2 + long) m fits, le-leb (2 + long) (length s) (omega arith))
    (pick (is_due kind (number_of (take 2 (drop 2 s)))) (eqb (number_of (take 2 s)) long))
  where
    pick : (a b : Bool) → need a 3 (need b 2 (gives (taken (take (long - 2) (drop 4 s)) (take (m - (2 + long)) (drop (2 + long) s))))) ≡ shorter (m - (2 + long)) (need a 3 (need b 2 (gives (taken (take (long - 2) (drop 4 s)) (drop (2 + long) s)))))
    pick true true = refl
    pick true false = refl
    pick false b = refl

body-prefix : (version n m : ℕ) (s : List ℕ) → n * stop_size version + 4 < m → m ≤ length s → read_body version n (take m s) ≡ read_body version n s
unfolding read_body end_of stop_then
body-prefix version zero m s h size =
    let none : 0 * stop_size version ≡ 0 = zero-mul (stop_size version) in
    let two : record_length 3 version 0 ≡ 2 = end-length version in
    ap (λ (t : Outcome Taken). and_then t end_of) (record-prefix 3 (record_length 3 version 0) m s (omega arith) (omega arith) size)
    ∙ by-taken 3 (record_length 3 version 0) s (λ t. and_then (shorter (m - (2 + record_length 3 version 0)) t) end_of ≡ and_then t end_of)
    (λ w.
    let more : length (drop (2 + record_length 3 version 0) s) ≡ length s - (2 + record_length 3 version 0) = length-drop (2 + record_length 3 version 0) s in
    let less : length (take (m - (2 + record_length 3 version 0)) (drop (2 + record_length 3 version 0) s)) ≡ m - (2 + record_length 3 version 0) =
    length-take-le (m - (2 + record_length 3 version 0)) (drop (2 + record_length 3 version 0) s) (omega arith) in
    let some : 0 < length (take (m - (2 + record_length 3 version 0)) (drop (2 + record_length 3 version 0) s)) = omega arith in
    let some_more : 0 < length (drop (2 + record_length 3 version 0) s) = omega arith in
    rw (ne_eqb _ _ (not-zero _ some), ne_eqb _ _ (not-zero _ some_more)))
    (λ k f. refl)
  where
    not-zero : (x : ℕ) → 0 < x → x ≡ 0 → ⊥
    not-zero x p z = omega arith
body-prefix version (suc n) m s h size =
    let step : suc n * stop_size version ≡ n * stop_size version + stop_size version = suc-mul n (stop_size version) in
    let one : stop_size version ≡ 2 + record_length 2 version 0 = size-length version in
    let more : length (drop (2 + record_length 2 version 0) s) ≡ length s - (2 + record_length 2 version 0) = length-drop (2 + record_length 2 version 0) s in
    let rest : read_body version n (take (m - (2 + record_length 2 version 0)) (drop (2 + record_length 2 version 0) s)) ≡ read_body version n (drop (2 + record_length 2 version 0) s) =
    body-prefix version n (m - (2 + record_length 2 version 0)) (drop (2 + record_length 2 version 0) s) (omega arith) (omega arith) in
    ap (λ (t : Outcome Taken). and_then t (stop_then version (read_body version n))) (record-prefix 2 (record_length 2 version 0) m s (omega arith) (omega arith) size)
    ∙ by-taken 2 (record_length 2 version 0) s (λ t. and_then (shorter (m - (2 + record_length 2 version 0)) t) (stop_then version (read_body version n)) ≡ and_then t (stop_then version (read_body version n)))
    (λ w. rw rest)
    (λ k f. refl)

-- ---- the head and the whole path

abbrev shorter-head : ℕ → Outcome PathHead → Outcome PathHead
shorter-head m o = giving (λ h. path_head h.version h.k (take m h.rest)) o

fields-shorter : (highest m version k : ℕ) (rest : List ℕ) → head_fields highest version k (take m rest) ≡ shorter-head m (head_fields highest version k rest)
unfolding head_fields
fields-shorter highest m version k rest = pick (known_version version && leb version highest) (leb k 10)
  where
    pick : (a b : Bool) → need a 4 (need b 5 (gives (path_head version k (take m rest)))) ≡ shorter-head m (need a 4 (need b 5 (gives (path_head version k rest))))
    pick true true = refl
    pick true false = refl
    pick false b = refl

head-prefix : (bytes : List ℕ) (highest m : ℕ) → 8 ≤ m → m ≤ length bytes → read_head (take m bytes) highest ≡ shorter-head (m - 8) (read_head bytes highest)
unfolding read_head head_of
head-prefix bytes highest m h size = by-highest (known_version highest)
  where
    by-highest : (b : Bool) → need b 4 (and_then (take_record 1 (record_length 1 highest 0) (take m bytes)) (head_of highest)) ≡ shorter-head (m - 8) (need b 4 (and_then (take_record 1 (record_length 1 highest 0) bytes) (head_of highest)))
    by-highest true =
        let six : record_length 1 highest 0 ≡ 6 = path-length highest in
        let eight : m - (2 + record_length 1 highest 0) ≡ m - 8 = omega arith in
        ap (λ (t : Outcome Taken). and_then t (head_of highest)) (rw eight at (record-prefix 1 (record_length 1 highest 0) m bytes (omega arith) (omega arith) size))
        ∙ by-taken 1 (record_length 1 highest 0) bytes (λ t. and_then (shorter (m - 8) t) (head_of highest) ≡ shorter-head (m - 8) (and_then t (head_of highest)))
        (λ w. fields-shorter highest (m - 8) _ _ _)
        (λ k f. refl)
    by-highest false = refl

-- what follows the first N + 1 bytes does not count for a caller whose paths have at most N
path-prefix : (bytes : List ℕ) (highest : ℕ) (test : ℕ → Outcome Unit) (N : ℕ) → ((version k : ℕ) → test k ≡ gives tt → path_size version k ≤ N) → 12 ≤ N → N < length bytes → read_path (take (suc N) bytes) highest test ≡ read_path bytes highest test
unfolding read_path read_on
path-prefix bytes highest test N bound twelve longer =
    ap (λ (h : Outcome PathHead). and_then h (read_on test)) (head-prefix bytes highest (suc N) (omega arith) longer)
    ∙ by-head (read_head bytes highest) (head-seen bytes highest)
  where
    by-test : (version k : ℕ) (o : Outcome Unit) → test k ≡ o → and_then o (λ passed. giving (path version k) (read_body version (2 ^ k) (take (suc N - 8) (drop 8 bytes)))) ≡ and_then o (λ passed. giving (path version k) (read_body version (2 ^ k) (drop 8 bytes)))
    by-test version k (gives tt) f =
        let size : path_size version k ≤ N = bound version k f in
        let is : path_size version k ≡ 12 + 2 ^ k * stop_size version = size_is version k in
        let more : length (drop 8 bytes) ≡ length bytes - 8 = length-drop 8 bytes in
        ap (giving (path version k)) (body-prefix version (2 ^ k) (suc N - 8) (drop 8 bytes) (omega arith) (omega arith))
    by-test version k (refuses n) f = refl

    by-head : (h : Outcome PathHead) → Seen bytes highest h → and_then (shorter-head (suc N - 8) h) (read_on test) ≡ and_then h (read_on test)
    by-head h (good-head version k p q r l) = by-test version k (test k) refl
    by-head h (bad-head n f) = refl

-- ---- a limit of k

-- the bytes of the longest path of k up to `most`, in the newest version
abbrev pub longest_of : (most : ℕ) → ℕ
longest_of most = 12 + 2 ^ most * largest_stop

longest-bound : (most version k : ℕ) → k ≤ most → path_size version k ≤ longest_of most
longest-bound most version k h =
    let all = le_trans (mul-le-mul_left (2 ^ k) (size-range version).1) (mul-le-mul_right largest_stop (pow_mono {i = k} {j = most} h)) in
    rw (size_is version k) (omega arith)

-- THE LAW: for a caller that takes k up to `most` the first bytes, one more than the longest path has, settle the reading
pub longer-read : (most : ℕ) (bytes : List ℕ) (highest : ℕ) (test : ℕ → Outcome Unit) → ((k : ℕ) → test k ≡ gives tt → k ≤ most)
    → read_path (take (suc (longest_of most)) bytes) highest test ≡ read_path bytes highest test
longer-read most bytes highest test limit = go (dec_le (length bytes) (longest_of most))
  where
    go : Dec (length bytes ≤ longest_of most) → read_path (take (suc (longest_of most)) bytes) highest test ≡ read_path bytes highest test
    go (yes h) = ap (λ (b : List ℕ). read_path b highest test) (take_all (suc (longest_of most)) bytes (omega arith))
    go (no h) = path-prefix bytes highest test (longest_of most) (λ version k e. longest-bound most version k (limit k e)) (omega arith) (omega arith)
