-- A file read record by record: each record is judged where it is due, and a file whose records are all good says what stands at fixed
-- places of it.
use mathlib.Core.Path.{◌≡◌, refl, sym, ap, ◌∙◌}
use mathlib.Core.Bool.{Bool}
use mathlib.Core.List.{List}
use Prim.Native.Nat.{ℕ, ◌+◌, ◌*◌, ◌-◌, ◌^◌, ◌≤◌, ◌<◌}
use native.Mathlib.Decide.{dec_le}
use native.Mathlib.Omega.{arith}
use lib.Dec.{eqb, leb}
use lib.ListN.{length, take, drop, length-drop}
use lib.Seq.{take-take, drop-drop}
use borrow.Author.Tests.{eq-eqb, ne_eqb, le-leb, lt-leb, leb-true, eqb-true}
use Rattle.base.specs.Refusal.{refusal_number, wrong_k, trailing_bytes}
use Rattle.base.specs.declared.Refusal.{Refusal}
use Rattle.base.specs.Outcome.{Outcome, gives, refuses, need, unless, and_then, done, number}
use Rattle.base.proofs.Numbered.{refusal_numbered}
use Rattle.base.proofs.Outcome.{passed, unless-zero, unless-refused, unless-passed}
use Rattle.records.specs.Field.{number_of}
use Rattle.records.specs.Record.{Taken, taken, take_record, record_length, order_kind, stops_kind, forks_kind, end_kind}
use Rattle.records.proofs.RecordLaws.{by-taken, number-good, taken-whole}
use Rattle.records.proofs.LengthLaws.{order-length, stops-length, forks-length, end-length}
use Rattle.orders.specs.Bits.{byte_count}
use Rattle.orders.proofs.Calls.{done-number, done-refused}
use Rattle.order_file.specs.File.{stops_record, total_place, stops_place, forks_place, end_place, file_size}
use Rattle.order_file.specs.Reading.{any_version, Contents, contents, stops_in, read_records}
use Rattle.order_file.proofs.Bytes.{stops-part}

-- a record, and what comes after it where it is whole
take-then : (kind long : ℕ) (s : List ℕ) (next : Taken → Outcome Contents) (rest : Outcome Contents)
    → next (taken (take (long - 2) (drop 4 s)) (drop (2 + long) s)) ≡ rest
    → and_then (take_record kind long s) next ≡ unless (number (take_record kind long s)) rest
take-then kind long s next rest e =
    by-taken kind long s (λ t. and_then t next ≡ unless (number t) rest) (λ w. e) (λ n f. sym (unless-refused n rest f))

-- a record decides, or what comes after it does
module _ (o : Outcome Contents) (t : Outcome Taken) (rest : Outcome Contents) (is : o ≡ unless (number t) rest) where
  pub record-bad : (r : Refusal) → refuses (refusal_number r) ≡ done t → refuses (refusal_number r) ≡ done o
  record-bad r e =
      let n : ℕ = refusal_number r in
      let some : n ≡ 0 → ⊥ = λ z. omega (arith, (refusal_numbered r).first) in
      sym (ap done (is ∙ ap (λ (x : Outcome Taken). unless (number x) rest) (done-refused t n e) ∙ unless-refused n rest some))

  pub record-good : gives tt ≡ done t → o ≡ rest
  record-good e = is ∙ unless-zero (number t) rest (done-number t e)

-- two drops as one
drops : (a b c : ℕ) (s : List ℕ) → c ≡ b + a → drop a (drop b s) ≡ drop c s
drops a b c s e = drop-drop a b s ∙ ap (λ (x : ℕ). drop x s) (sym e)

-- nothing is left exactly if there is not more
none_left : (a b : ℕ) → eqb (a - b) 0 ≡ leb a b
none_left a b = go (dec_le a b)
  where
    go : Dec (a ≤ b) → eqb (a - b) 0 ≡ leb a b
    go (yes h) = rw (le-leb a b h) (eq-eqb (a - b) 0 (omega arith))
    go (no h) = rw (lt-leb a b (omega arith)) (ne_eqb (a - b) 0 (λ z. h (omega arith)))

module _ (k : ℕ) (file : List ℕ) where
  abbrev n : ℕ
  n = 2 ^ k

  -- the four records where they are due
  abbrev pub head_taken : Outcome Taken
  head_taken = take_record order_kind 4 file

  abbrev pub stops_taken : Outcome Taken
  stops_taken = take_record stops_kind (10 + 2 * 2 ^ k) (drop stops_record file)

  abbrev pub forks_taken : Outcome Taken
  forks_taken = take_record forks_kind (2 + byte_count (2 ^ k)) (drop (forks_place (2 ^ k)) file)

  abbrev pub end_taken : Outcome Taken
  end_taken = take_record end_kind 2 (drop (end_place (2 ^ k)) file)

  -- what they say
  abbrev pub own_k : ℕ
  own_k = number_of (take 2 (drop 4 file))

  abbrev pub total : ℕ
  total = number_of (take 8 (drop total_place file))

  abbrev pub stops : List ℕ
  stops = stops_in (2 ^ k) (drop stops_place file)

  abbrev pub string : List ℕ
  string = take (byte_count (2 ^ k)) (drop (4 + forks_place (2 ^ k)) file)

  abbrev pub says : Contents
  says = contents total stops string

  -- what comes after each record
  abbrev pub after_end : Outcome Contents
  after_end = need (leb (length file) (file_size n)) trailing_bytes (gives says)

  abbrev pub after_forks : Outcome Contents
  after_forks = unless (number end_taken) after_end

  abbrev pub after_stops : Outcome Contents
  after_stops = unless (number forks_taken) after_forks

  abbrev pub after_head : Outcome Contents
  after_head = need (eqb own_k k) wrong_k (unless (number stops_taken) after_stops)

  -- and how the definition says it
  abbrev end_next : Contents → Taken → Outcome Contents
  end_next f end = need (eqb (length end.rest) 0) trailing_bytes (gives f)

  abbrev forks_next : ℕ → List ℕ → Taken → Outcome Contents
  forks_next sum order forks =
      and_then (take_record end_kind (record_length end_kind any_version 0) forks.rest) (end_next (contents sum order forks.content))

  abbrev stops_next : Taken → Outcome Contents
  stops_next stops =
      and_then (take_record forks_kind (record_length forks_kind any_version n) stops.rest) (forks_next (number_of (take 8 stops.content)) (stops_in n (drop 8 stops.content)))

  abbrev head_next : Taken → Outcome Contents
  head_next head =
      need (eqb (number_of (take 2 head.content)) k) wrong_k
      (and_then (take_record stops_kind (record_length stops_kind any_version n) head.rest) stops_next)

  end_is : end_next says (taken (take 0 (drop 4 (drop (end_place n) file))) (drop 4 (drop (end_place n) file))) ≡ after_end
  end_is =
      let left : length (drop 4 (drop (end_place n) file)) ≡ length file - file_size n = rw (length-drop, length-drop) (omega arith) in
      ap (λ (t : Bool). need t trailing_bytes (gives says)) (ap (λ (x : ℕ). eqb x 0) left ∙ none_left (length file) (file_size n))

  forks-is : let s = drop (forks_place n) file in
      forks_next total stops (taken (take (2 + byte_count n - 2) (drop 4 s)) (drop (2 + (2 + byte_count n)) s)) ≡ after_forks
  forks-is =
      let m : ℕ = byte_count n in
      let s : List ℕ = drop (forks_place n) file in
      let long : 2 + m - 2 ≡ m = omega arith in
      let inner : drop 4 s ≡ drop (4 + forks_place n) file = drops 4 (forks_place n) (4 + forks_place n) file (omega arith) in
      let past : drop (2 + (2 + m)) s ≡ drop (end_place n) file = drops (2 + (2 + m)) (forks_place n) (end_place n) file (omega arith) in
      rw (long, inner, past, end-length any_version) (take-then end_kind 2 (drop (end_place n) file) (end_next says) after_end end_is)

  stops-is : let s = drop stops_record file in
      stops_next (taken (take (10 + 2 * n - 2) (drop 4 s)) (drop (2 + (10 + 2 * n)) s)) ≡ after_stops
  stops-is =
      let s : List ℕ = drop stops_record file in
      let long : 10 + 2 * n - 2 ≡ 8 + 2 * n = omega arith in
      let inner : drop 4 s ≡ drop total_place file = drops 4 stops_record total_place file refl in
      let whole : drop 8 (drop total_place file) ≡ drop stops_place file = drops 8 total_place stops_place file refl in
      let past : drop (2 + (10 + 2 * n)) s ≡ drop (forks_place n) file = drops (2 + (10 + 2 * n)) stops_record (forks_place n) file (omega arith) in
      let sum : take 8 (take (8 + 2 * n) (drop total_place file)) ≡ take 8 (drop total_place file) = take-take 8 (8 + 2 * n) (drop total_place file) (omega arith) in
      let order : stops_in n (drop 8 (take (8 + 2 * n) (drop total_place file))) ≡ stops = stops-part n 8 (8 + 2 * n) (drop total_place file) (omega arith) ∙ ap (stops_in n) whole in
      rw (long, inner, past, sum, order, forks-length any_version n)
      (take-then forks_kind (2 + byte_count n) (drop (forks_place n) file) (forks_next total stops) after_forks forks-is)

  head-is : head_next (taken (take 2 (drop 4 file)) (drop stops_record file)) ≡ after_head
  head-is =
      rw (take-take 2 2 (drop 4 file) (omega arith), stops-length any_version n)
      (ap (need (eqb own_k k) wrong_k) (take-then stops_kind (10 + 2 * n) (drop stops_record file) stops_next after_stops stops-is))

  -- the file by its records where they are due
  pub records-are : read_records k file ≡ unless (number head_taken) after_head
  unfolding read_records
  records-are = rw (order-length any_version) (take-then order_kind 4 file head_next after_head head-is)

  -- the file's own k, and bytes after the end record
  pub own-good : own_k ≡ k → after_head ≡ unless (number stops_taken) after_stops
  own-good e = rw (eq-eqb own_k k e)

  pub own-bad : (own_k ≡ k → ⊥) → after_head ≡ refuses wrong_k
  own-bad e = rw (ne_eqb own_k k e)

  pub end_more : file_size (2 ^ k) < length file → after_end ≡ refuses trailing_bytes
  end_more h = rw (lt-leb (length file) (file_size n) h)

  pub end-exact : length file ≤ file_size (2 ^ k) → after_end ≡ gives says
  end-exact h = rw (le-leb (length file) (file_size n) h)

  -- ---- a file whose records are not refused
  pub record Whole : Type 0 where
    pub head : number head_taken ≡ 0
    pub own : own_k ≡ k
    pub order : number stops_taken ≡ 0
    pub forks : number forks_taken ≡ 0
    pub end : number end_taken ≡ 0
    pub exact : length file ≤ file_size (2 ^ k)

  pub whole : number (read_records k file) ≡ 0 → Whole
  whole z =
      let head = unless-passed (number head_taken) after_head (sym (ap number records-are) ∙ z) in
      let own = passed (eqb own_k k) wrong_k (unless (number stops_taken) after_stops) (omega arith) head.1 in
      let order = unless-passed (number stops_taken) after_stops own.goes_on in
      let forks = unless-passed (number forks_taken) after_forks order.1 in
      let end = unless-passed (number end_taken) after_end forks.1 in
      let exact = passed (leb (length file) (file_size n)) trailing_bytes (gives says) (omega arith) end.1 in
      record {
        head = head.0;
        own = eqb-true _ _ own.holds;
        order = order.0;
        forks = forks.0;
        end = end.0;
        exact = leb-true _ _ exact.holds;
      }

  -- says what stands at its places
  pub whole_says : Whole → read_records k file ≡ gives says
  whole_says w =
      records-are ∙ rw (w.head, eq-eqb _ _ w.own, w.order, w.forks, w.end, le-leb _ _ w.exact)

-- the fork string of such a file is all there
pub string-there : (k : ℕ) (file : List ℕ) → Whole k file → 4 + forks_place (2 ^ k) + byte_count (2 ^ k) ≤ length file
string-there k file w =
    let s : List ℕ = drop (forks_place (2 ^ k)) file in
    let t = taken-whole forks_kind (2 + byte_count (2 ^ k)) s _ _ (number-good forks_kind (2 + byte_count (2 ^ k)) s w.forks) in
    omega (arith, t.enough, length-drop (forks_place (2 ^ k)) file)
