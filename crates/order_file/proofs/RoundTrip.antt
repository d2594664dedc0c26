-- An order file that was written is read as what it was written from, and a file that is accepted is the one that is written for its order.
use mathlib.Core.Path.{◌≡◌, refl, sym, ap, ap₂, ◌∙◌}
use mathlib.Core.Bool.{true}
use mathlib.Core.List.{List, [], ◌++◌, append-nil, append_assoc}
use Prim.Native.Nat.{ℕ, ◌+◌, ◌*◌, ◌-◌, ◌^◌, ◌≤◌, ◌<◌}
use native.Mathlib.Omega.{arith}
use lib.ListN.{length, get_or, take, drop, length-append, length-take, length-drop, drop_of_length-le}
use lib.Seq.{take_all, take_at, drop_at, length-take-le, take-add, drop-drop}
use borrow.Author.Tests.{eq-eqb}
use Rattle.std.specs.Prelude.{Result, Ok, Err}
use Rattle.base.specs.declared.Refusal.{Refusal}
use Rattle.base.specs.Outcome.{gives, giving, said, number, over}
use Rattle.base.specs.Size.{max_k}
use Rattle.base.proofs.Outcome.{number-giving, over-front}
use Rattle.base.proofs.Size.{pow-le-1024}
use Rattle.records.specs.Field.{number_of, bytes_of, are_bytes}
use Rattle.records.specs.Record.{taken, take_record, record_bytes, is_kind, order_kind, stops_kind, forks_kind, end_kind}
use Rattle.records.proofs.FieldLaws.{number-bytes_of, bytes_of-number, length-bytes_of, are_bytes-take, are_bytes-drop}
use Rattle.records.proofs.RecordLaws.{take-written, taken-written, number-good}
use Rattle.records.proofs.LengthLaws.{order-length, stops-length, forks-length, end-length}
use Rattle.tree.specs.Total.{entry, total}
use Rattle.tree.proofs.Small.{total-small}
use Rattle.orders.specs.Allowed.{is_allowed, forks_of}
use Rattle.orders.specs.Bits.{byte_count, bit_string}
use Rattle.orders.specs.Lent.{order_in, JudgedOrder}
use Rattle.orders.proofs.Same.{same_alike}
use Rattle.orders.proofs.Allowed.{below_each, allowed-below, allowed-long}
use Rattle.orders.proofs.Lent.{holds-order}
use Rattle.order_file.specs.File.{stop_bytes, head_bytes, stops_bytes, forks_bytes, end_bytes, order_file, file_for, stops_record, forks_place, end_place, total_place, stops_place, file_size}
use Rattle.order_file.specs.Reading.{any_version, contents, stops_in, read_records, unsummed, judge_file}
use Rattle.order_file.specs.Write as write
use Rattle.order_file.specs.Read as read
use Rattle.order_file.proofs.Bytes.{length-stop_bytes, stops-read, stops-written}
use Rattle.order_file.proofs.Sizes.{true-sizes}
use Rattle.order_file.proofs.Stages as stage
use Rattle.order_file.proofs.Calls.{Lent, Writes, Accepted, string-good, file-accepted, read-lent, read-contents, read-gives, write-judged, write-gives}

-- ---- reading what was written

-- the records of a file say what it was written from
pub written-said : (k sum : ℕ) (order string : List ℕ) → k ≤ max_k → sum < 2 ^ 64 → length order ≡ 2 ^ k → ((p : ℕ) → p < 2 ^ k → get_or order p 0 < 65536)
    → length string ≡ byte_count (2 ^ k) → read_records k (order_file k sum order string) ≡ gives (contents sum order string)
unfolding read_records order_file head_bytes stops_bytes forks_bytes end_bytes is_kind
written-said k sum order string h small long stops string-long =
    let n : ℕ = 2 ^ k in
    let m : ℕ = byte_count n in
    let w = true-sizes k h in
    let content : List ℕ = bytes_of 8 sum ++ stop_bytes order in
    let e : List ℕ = record_bytes end_kind [] in
    let f : List ℕ = record_bytes forks_kind string in
    let s : List ℕ = record_bytes stops_kind content in
    let all : record_bytes order_kind (bytes_of 2 k) ++ s ++ f ++ e ≡ record_bytes order_kind (bytes_of 2 k) ++ (s ++ (f ++ e)) = simp append_assoc in
    let content-long : length content ≡ 8 + 2 * n = rw (length-append, length-bytes_of, length-stop_bytes) (omega arith) in
    let own : number_of (take 2 (bytes_of 2 k)) ≡ k
    = ap (λ (x : List ℕ). number_of x) (take_all 2 (bytes_of 2 k) (omega (arith, length-bytes_of 2 k))) ∙ number-bytes_of 2 k (omega arith) in
    let total-is : number_of (take 8 content) ≡ sum = rw (take_at (bytes_of 8 sum) (stop_bytes order) 8 (length-bytes_of 8 sum)) (number-bytes_of 8 sum small) in
    let order_is : stops_in n (drop 8 content) ≡ order
    = rw (drop_at (bytes_of 8 sum) (stop_bytes order) 8 (length-bytes_of 8 sum))
    (ap (stops_in n) (sym (append-nil (stop_bytes order))) ∙ stops-read n order [] long stops) in
    let last : take_record end_kind 2 e ≡ gives (taken [] []) = ap (take_record end_kind 2) (sym (append-nil e)) ∙ take-written end_kind [] [] 2 refl refl (omega arith) in
    rw (
      all,
      order-length any_version,
      take-written order_kind (bytes_of 2 k) (s ++ (f ++ e)) 4 refl (omega (arith, length-bytes_of 2 k)) (omega arith),
      own,
      eq-eqb k k refl,
      stops-length any_version n,
      take-written stops_kind content (f ++ e) (10 + 2 * n) refl (omega arith) (omega (arith, w.small)),
      total-is,
      order_is,
      forks-length any_version n,
      take-written forks_kind string e (2 + m) refl (omega arith) (omega (arith, w.few)),
      end-length any_version,
      last,
    )

-- a total fits 64 bits
pub total-fits : (k : ℕ) (table order : List ℕ) → k ≤ max_k → length order ≡ 2 ^ k → ((i : ℕ) → get_or table i 0 < 2 ^ 32) → total (entry (2 ^ k) table) order < 2 ^ 64
total-fits k table order h e small =
    let b : length order ≤ 1024 = rw e (pow-le-1024 k h) in
    omega (arith, total-small (entry (2 ^ k) table) order (λ x y. let w = small (x * 2 ^ k + y) in omega arith) b)

module _ (k : ℕ) (t : ℕ → ℕ → ℕ) (order : List ℕ) (small : k ≤ max_k) (allowed : is_allowed k order ≡ true) (fits : total t order < 2 ^ 64) where
  -- the file for an allowed order says that order, its total and its fork string
  pub file-says : read_records k (file_for k t order) ≡ gives (contents (total t order) order (bit_string k (forks_of k order)))
  unfolding file_for
  file-says =
      let long : length order ≡ 2 ^ k = allowed-long k order allowed in
      written-said k (total t order) order (bit_string k (forks_of k order)) small fits long
      (λ p b. omega (arith, below_each (2 ^ k) order (allowed-below k order allowed) p (omega arith), (true-sizes k small).small))
      (length-bytes_of (byte_count (2 ^ k)) (forks_of k order))

  -- and is not refused
  pub file-good : judge_file k t (file_for k t order) ≡ gives (contents (total t order) order (bit_string k (forks_of k order)))
  unfolding judge_file unsummed
  file-good =
      rw (file-says, string-good k order (bit_string k (forks_of k order)) allowed (same_alike _ _ refl), eq-eqb (total t order) (total t order) refl)

-- ---- an accepted file is the one that is written for its order

module _ (k : ℕ) (file : List ℕ) (bytes : are_bytes file ≡ true) (w : stage.Whole k file) where
  abbrev n : ℕ
  n = 2 ^ k

  abbrev m : ℕ
  m = byte_count n

  -- what is taken is what was written
  head-part : file ≡ head_bytes k ++ drop stops_record file
  unfolding head_bytes
  head-part =
      let content : List ℕ = take 2 (drop 4 file) in
      let t = taken-written order_kind 4 file content (drop stops_record file) bytes (omega arith) (number-good order_kind 4 file w.head) in
      let two : length content ≡ 2 = omega (arith, t.1) in
      let own : bytes_of 2 k ≡ content
      = sym (ap (bytes_of 2) w.own) ∙ ap (λ (x : ℕ). bytes_of x (number_of content)) (sym two) ∙ bytes_of-number content (are_bytes-take 2 _ (are_bytes-drop 4 file bytes)) in
      rw own t.0

  stops-part : drop stops_record file ≡ stops_bytes (stage.total k file) (stage.stops k file) ++ drop (forks_place n) file
  unfolding stops_bytes
  stops-part =
      let s : List ℕ = drop stops_record file in
      let content : List ℕ = take (8 + 2 * n) (drop total_place file) in
      let sum : List ℕ = take 8 (drop total_place file) in
      let inner : drop 4 s ≡ drop total_place file = drop-drop 4 stops_record file in
      let rest : drop (2 + (10 + 2 * n)) s ≡ drop (forks_place n) file
      = drop-drop (2 + (10 + 2 * n)) stops_record file ∙ ap (λ (x : ℕ). drop x file) (let e : stops_record + (2 + (10 + 2 * n)) ≡ forks_place n = omega arith in e) in
      let size : 10 + 2 * n - 2 ≡ 8 + 2 * n = omega arith in
      let is : take_record stops_kind (10 + 2 * n) s ≡ gives (taken content (drop (forks_place n) file))
      = number-good stops_kind (10 + 2 * n) s w.order ∙ rw (size, inner, rest) in
      let t = taken-written stops_kind (10 + 2 * n) s content (drop (forks_place n) file) (are_bytes-drop stops_record file bytes) (omega arith) is in
      let there : length content ≡ 8 + 2 * n = omega (arith, t.1) in
      let enough : 8 + 2 * n ≤ length (drop total_place file) = omega (arith, there, length-take (8 + 2 * n) (drop total_place file)) in
      let past : drop 8 (drop total_place file) ≡ drop stops_place file = drop-drop 8 total_place file in
      let eight : length sum ≡ 8 = length-take-le 8 (drop total_place file) (omega arith) in
      let sum_is : bytes_of 8 (number_of sum) ≡ sum
      = ap (λ (x : ℕ). bytes_of x (number_of sum)) (sym eight) ∙ bytes_of-number sum (are_bytes-take 8 _ (are_bytes-drop total_place file bytes)) in
      let stops-are : stop_bytes (stage.stops k file) ≡ take (2 * n) (drop stops_place file)
      = stops-written n (drop stops_place file) (are_bytes-drop stops_place file bytes) (omega (arith, length-drop 8 (drop total_place file), ap length past)) in
      let whole : bytes_of 8 (stage.total k file) ++ stop_bytes (stage.stops k file) ≡ content
      = ap₂ (λ (x y : List ℕ). x ++ y) sum_is stops-are ∙ sym (take-add 8 (2 * n) (drop total_place file) ∙ rw past) in
      t.0 ∙ ap (λ (x : List ℕ). record_bytes stops_kind x ++ drop (forks_place n) file) (sym whole)

  forks-part : drop (forks_place n) file ≡ forks_bytes (stage.string k file) ++ drop (end_place n) file
  unfolding forks_bytes
  forks-part =
      let s : List ℕ = drop (forks_place n) file in
      let size : 2 + m - 2 ≡ m = omega arith in
      let inner : drop 4 s ≡ drop (4 + forks_place n) file
      = drop-drop 4 (forks_place n) file ∙ ap (λ (x : ℕ). drop x file) (let e : forks_place n + 4 ≡ 4 + forks_place n = omega arith in e) in
      let rest : drop (2 + (2 + m)) s ≡ drop (end_place n) file
      = drop-drop (2 + (2 + m)) (forks_place n) file ∙ ap (λ (x : ℕ). drop x file) (let e : forks_place n + (2 + (2 + m)) ≡ end_place n = omega arith in e) in
      let is : take_record forks_kind (2 + m) s ≡ gives (taken (stage.string k file) (drop (end_place n) file))
      = number-good forks_kind (2 + m) s w.forks ∙ rw (size, inner, rest) in
      (taken-written forks_kind (2 + m) s (stage.string k file) (drop (end_place n) file) (are_bytes-drop (forks_place n) file bytes) (omega arith) is).0

  end-part : drop (end_place n) file ≡ end_bytes
  unfolding end_bytes
  end-part =
      let s : List ℕ = drop (end_place n) file in
      let none : drop (2 + 2) s ≡ [] = drop_of_length-le s {i = 4} (omega (arith, length-drop (end_place n) file, w.exact)) in
      let is : take_record end_kind 2 s ≡ gives (taken [] []) = number-good end_kind 2 s w.end ∙ rw none in
      (taken-written end_kind 2 s [] [] (are_bytes-drop (end_place n) file bytes) (omega arith) is).0 ∙ append-nil (record_bytes end_kind [])

  -- the four records make the file
  pub file-written : file ≡ order_file k (stage.total k file) (stage.stops k file) (stage.string k file)
  unfolding order_file
  file-written =
      let a : List ℕ = head_bytes k in
      let b : List ℕ = stops_bytes (stage.total k file) (stage.stops k file) in
      let d : List ℕ = forks_bytes (stage.string k file) in
      let parts : file ≡ a ++ (b ++ (d ++ end_bytes))
      = head-part ∙ ap (λ (x : List ℕ). a ++ x) (stops-part ∙ ap (λ (x : List ℕ). b ++ x) (forks-part ∙ ap (λ (x : List ℕ). d ++ x) end-part)) in
      parts ∙ simp append_assoc

-- an accepted file is byte for byte the one that is written for its order, so there is one file for an order
pub accepted-file : (k : ℕ) (t : ℕ → ℕ → ℕ) (file : List ℕ) → are_bytes file ≡ true → Accepted k file → stage.total k file ≡ total t (stage.stops k file) → file ≡ file_for k t (stage.stops k file)
unfolding file_for
accepted-file k t file bytes a e =
    file-written k file bytes a.whole
    ∙ ap₂ (λ (x : ℕ) (y : List ℕ). order_file k x (stage.stops k file) y) e a.own

-- ---- the same of the calls' answers

-- an answer that gives a number is that number
only-ok : (r : Result ℕ Refusal) (a : ℕ) → said r ≡ gives a → r ≡ Ok a
only-ok (Ok x) a e = let s : x ≡ a = cc in ap Ok s
only-ok (Err n) a e = let z : ◌≡◌ {A = ℕ} 0 1 = cc in absurd (omega arith)

-- a file that was written is read as the order, the total and the fork bits that it was written from
pub read_again : (k : ℕ) (order table out out' : List ℕ) (size : ℕ) → ((i : ℕ) → get_or table i 0 < 2 ^ 32) → write.FileIsWritten k order table out out' (Ok size)
    → (places places' room room' : List ℕ) (r : Result ℕ Refusal) → 2 ^ k ≤ length places → byte_count (2 ^ k) ≤ length room
    → read.FileIsRead k table (take size out') places places' room room' r
    → (r ≡ Ok (total (entry (2 ^ k) table) (order_in k order))) × (places' ≡ over (order_in k order) places)
    × (room' ≡ over (bit_string k (forks_of k (order_in k order))) room)
read_again k order table out out' size entries first places places' room room' r fits-order Fits-bits second =
    let t : ℕ → ℕ → ℕ = entry (2 ^ k) table in
    let o : List ℕ = order_in k order in
    let file : List ℕ = file_for k t o in
    let w = write-judged k order table (length out) (sym (number-giving length (write.write_file k order table (length out))) ∙ sym (ap number first.said)) in
    let g = write-gives k order table (length out) w in
    let long : length o ≡ 2 ^ k = allowed-long k o w.judged.allowed in
    let size_is : size ≡ length file = gives_same size (length file) (first.said ∙ ap (giving length) g) in
    let bytes : take size out' ≡ file = ap (take size) (first.left ∙ rw g) ∙ over-front size file out (sym size_is) in
    let lent : Lent k table (take size out') (length places) (length room) = record {
      small = w.judged.small;
      square = w.square;
      order-fits = fits-order;
      bits_fit = Fits-bits;
    } in
    let is : read.read_file k table (take size out') (length places) (length room) ≡ gives (contents (total t o) o (bit_string k (forks_of k o)))
    = read-contents k table (take size out') (length places) (length room) lent
    ∙ ap (judge_file k t) bytes
    ∙ file-good k t o w.judged.small w.judged.allowed (total-fits k table o w.judged.small long entries) in
    (only-ok r (total t o) (second.said ∙ rw is), second.order_left ∙ rw is, second.bits_left ∙ rw is)
  where
    gives_same : (a b : ℕ) → gives a ≡ gives b → a ≡ b
    gives_same a b e = cc

-- a file that was accepted is written again, byte for byte, from the order that was read
pub write_again : (k : ℕ) (table file order order' bits bits' : List ℕ) (sum : ℕ) → are_bytes file ≡ true
    → read.FileIsRead k table file order order' bits bits' (Ok sum)
    → (out out' : List ℕ) (r : Result ℕ Refusal) → file_size (2 ^ k) ≤ length out → write.FileIsWritten k order' table out out' r
    → (r ≡ Ok (length file)) × (out' ≡ over file out)
write_again k table file order order' bits bits' sum bytes first out out' r room second =
    let t : ℕ → ℕ → ℕ = entry (2 ^ k) table in
    let z : number (read.read_file k table file (length order) (length bits)) ≡ 0
    = sym (number-giving (λ f. f.total) (read.read_file k table file (length order) (length bits))) ∙ sym (ap number first.said) in
    let l = read-lent k table file (length order) (length bits) z in
    let a = file-accepted k t file l.1 in
    let o : List ℕ = stage.stops k file in
    let left : order' ≡ over o order = first.order_left ∙ rw (read-gives k table file order bits z) in
    let front : order_in k order' ≡ o = ap (take (2 ^ k)) left ∙ over-front (2 ^ k) o order (allowed-long k o a.0.allowed) in
    let judged : JudgedOrder k order' = rw left (holds-order k o order l.0.small a.0.allowed) in
    let w : Writes k order' table (length out) = record { judged = judged; square = l.0.square; long = room } in
    let same : file_for k t (order_in k order') ≡ file = ap (file_for k t) front ∙ sym (accepted-file k t file bytes a.0 a.1) in
    let is : write.write_file k order' table (length out) ≡ gives file = write-gives k order' table (length out) w ∙ ap gives same in
    (only-ok r (length file) (second.said ∙ rw is), second.left ∙ rw is)
