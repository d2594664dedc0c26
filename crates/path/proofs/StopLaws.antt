-- Laws of one stop's record: what its content means does not depend on what follows it.
use mathlib.Core.Path.{◌≡◌, refl, sym, ap, ◌∙◌}
use mathlib.Core.Bool.{Bool, true, false}
use mathlib.Core.List.{List, [], ◌∷◌}
use Prim.Native.Nat.{ℕ, ◌+◌, ◌-◌, ◌*◌, ◌≤◌, ◌<◌}
use native.Mathlib.Omega.{arith}
use lib.IntN.{ℤ}
use lib.ListN.{length, take, drop, length-drop}
use lib.Seq.{take-take, drop-drop}
use lib.Dec.{eqb}
use borrow.Author.Tests.{le-leb, ne_eqb, eqb-true, eqb-false}
use Rattle.base.specs.Outcome.{Outcome, gives, refuses, and_then, giving, number}
use Rattle.base.proofs.Outcome.{number-first}
use Rattle.records.specs.Field.{number_of, signed}
use Rattle.base.proofs.Bools.{and_right}
use Rattle.records.specs.Record.{Taken, record_length, take_record, is_kind, is_due, kind_said, length_said, later_fields, blend_since, dwell_since}
use Rattle.records.proofs.LengthLaws.{stop-length}
use Rattle.records.proofs.Versions.{later-blend, later-dwell}
use Rattle.records.proofs.RecordLaws.{Whole, by-taken, whole, number-good}
use Rattle.stop.specs.declared.Stop.{Stop}
use Rattle.stop.specs.Stop.{in_range, judge_stop}
use Rattle.stop.proofs.Limits.{judged-good}
use Rattle.path.specs.Path.{stop_of, stop_in, read_stop, stop_then, stop_size, stop_place}
use Rattle.path.specs.Local.{field_since}
use Rattle.path.proofs.StopFields.{explicit-stop, since-window}
use Rattle.path.proofs.PlaceLaws.{window, size-length, size-range}

-- the stop of fields that are those of the content
pub same_stop : (version : ℕ) (s : List ℕ) {x y z : ℤ} {v b d : ℕ} → x ≡ signed (number_of (take 4 s)) → y ≡ signed (number_of (take 4 (drop 4 s))) → z ≡ signed (number_of (take 4 (drop 8 s))) → v ≡ number_of (take 2 (drop 12 s)) → b ≡ field_since blend_since version (drop 14 s) → d ≡ field_since dwell_since version (drop 16 s) → ◌≡◌ {A = Stop} (record { at = x ∷ y ∷ z ∷ []; speed = v; blend = b; dwell = d }) (stop_of version s)
same_stop version s ex ey ez ev eb ed = rw (ex, ey, ez, ev, eb, ed) (sym (explicit-stop version s))

-- bytes mean the stop that their front means, where it has the version's fields
front-stop : (version m : ℕ) (s : List ℕ) → 14 + 2 * later_fields version ≤ m → stop_of version (take m s) ≡ stop_of version s
front-stop version m s h =
    rw (
      explicit-stop version (take m s),
      explicit-stop version s,
      take-take 4 m s (omega arith),
      window 4 4 m s (omega arith),
      window 4 8 m s (omega arith),
      window 2 12 m s (omega arith),
      since-window blend_since version 14 m s (λ e. omega (arith, later-blend version e)),
      since-window dwell_since version 16 m s (λ e. omega (arith, later-dwell version e)),
    )

-- the content alone means the same stop as the bytes that it begins
pub content-stop : (version : ℕ) (s : List ℕ) → stop_of version (take (record_length 2 version 0 - 2) s) ≡ stop_of version s
content-stop version s = front-stop version (record_length 2 version 0 - 2) s (omega (arith, stop-length version))

-- ---- a stop's record

-- a record's refusal is the stop's
pub stop-refused : (version n : ℕ) (s : List ℕ) → take_record 2 (record_length 2 version 0) s ≡ refuses n → read_stop version s ≡ refuses n
unfolding read_stop
stop-refused version n s e = rw e

-- a whole record's stop is judged
pub stop-judged : (version : ℕ) (s : List ℕ) → number (take_record 2 (record_length 2 version 0) s) ≡ 0 → read_stop version s ≡ judge_stop (stop_of version (drop 4 s))
unfolding read_stop
stop-judged version s e = rw (number-good 2 (record_length 2 version 0) s e) (ap judge_stop (content-stop version (drop 4 s)))

-- a whole record lies within the bytes
pub taken-present : (version : ℕ) (s : List ℕ) → number (take_record 2 (record_length 2 version 0) s) ≡ 0 → stop_size version ≤ length s
taken-present version s =
    by-taken 2 (record_length 2 version 0) s (λ t. number t ≡ 0 → stop_size version ≤ length s)
    (λ w e. rw size-length w.enough)
    (λ n f e. absurd (f e))

-- then the stop at its place is that of its content
pub in_place : (version i : ℕ) (bytes : List ℕ) → stop_size version ≤ length (drop (stop_place version i) bytes) → stop_in version i bytes ≡ stop_of version (drop 4 (drop (stop_place version i) bytes))
unfolding stop_in
in_place version i bytes enough =
    let size : length (drop (stop_place version i) bytes) ≡ length bytes - stop_place version i = length-drop (stop_place version i) bytes in
    let next : stop_place version i + 4 ≡ 4 + stop_place version i = omega arith in
    rw (le-leb (stop_place version i + stop_size version) (length bytes) (omega (arith, (size-range version).0)))
    (ap (stop_of version) (sym (drop-drop 4 (stop_place version i) bytes ∙ rw next)))

-- and of the bytes from there on, where its record lies within them
pub within-stop : (version i : ℕ) (bytes : List ℕ) → stop_place version i + stop_size version ≤ length bytes → stop_in version i bytes ≡ stop_of version (drop (4 + stop_place version i) bytes)
unfolding stop_in
within-stop version i bytes h = rw (le-leb (stop_place version i + stop_size version) (length bytes) h)

-- a good stop's record lies within the bytes
pub stop-present : (version : ℕ) (s : List ℕ) → number (read_stop version s) ≡ 0 → stop_size version ≤ length s
unfolding read_stop
stop-present version s e = taken-present version s (number-first (take_record 2 (record_length 2 version 0) s) _ e)

-- and its stop is in range
pub stop-range : (version : ℕ) (s : List ℕ) → number (read_stop version s) ≡ 0 → in_range (stop_of version (drop 4 s)) ≡ true
unfolding read_stop
stop-range version s =
    by-taken 2 (record_length 2 version 0) s (λ t. number (and_then t (λ t. judge_stop (stop_of version t.content))) ≡ 0 → in_range (stop_of version (drop 4 s)) ≡ true)
    (λ w e. judged-good (stop_of version (drop 4 s)) (rw (content-stop version (drop 4 s)) at e))
    (λ n f e. absurd (f e))

-- a good stop is read, and the rest after it
pub stop-good : (version : ℕ) (next : List ℕ → Outcome (List Stop)) (s : List ℕ) → number (read_stop version s) ≡ 0 → and_then (take_record 2 (record_length 2 version 0) s) (stop_then version next) ≡ giving (λ ss. stop_of version (drop 4 s) ∷ ss) (next (drop (stop_size version) s))
unfolding read_stop stop_then judge_stop
stop-good version next s =
    by-taken 2 (record_length 2 version 0) s
    (λ t. number (and_then t (λ t. judge_stop (stop_of version t.content))) ≡ 0 → and_then t (stop_then version next) ≡ giving (λ ss. stop_of version (drop 4 s) ∷ ss) (next (drop (stop_size version) s)))
    (λ w e. rw (content-stop version (drop 4 s), size-length version) (good-one (rw (content-stop version (drop 4 s)) at e)))
    (λ n f e. absurd (f e))
  where
    good-one : number (judge_stop (stop_of version (drop 4 s))) ≡ 0 → and_then (judge_stop (stop_of version (drop 4 s))) (λ st. giving (λ ss. st ∷ ss) (next (drop (2 + record_length 2 version 0) s))) ≡ giving (λ ss. stop_of version (drop 4 s) ∷ ss) (next (drop (2 + record_length 2 version 0) s))
    good-one j = rw (judged-good (stop_of version (drop 4 s)) j)

-- a refused one is the refusal of all
pub stop-bad : (version : ℕ) (next : List ℕ → Outcome (List Stop)) (s : List ℕ) (n : ℕ) → read_stop version s ≡ refuses n → and_then (take_record 2 (record_length 2 version 0) s) (stop_then version next) ≡ refuses n
unfolding read_stop stop_then
stop-bad version next s n = by_record (take_record 2 (record_length 2 version 0) s)
  where
    by_stop : (o : Outcome Stop) (rest : Stop → Outcome (List Stop)) → o ≡ refuses n → and_then o rest ≡ refuses n
    by_stop o rest e = rw e

    by_record : (o : Outcome Taken) → and_then o (λ t. judge_stop (stop_of version t.content)) ≡ refuses n → and_then o (λ t. and_then (judge_stop (stop_of version t.content)) (λ s. giving (λ ss. s ∷ ss) (next t.rest))) ≡ refuses n
    by_record (gives t) e = by_stop (judge_stop (stop_of version t.content)) (λ s. giving (λ ss. s ∷ ss) (next t.rest)) e
    by_record (refuses m) e = let same : m ≡ n = cc in ap refuses same

-- ---- a stop's record told from everything else at once

-- a record that is not whole has a number that is not 0
not-whole : (long : ℕ) (s : List ℕ) → (Whole 2 long s (take (long - 2) (drop 4 s)) (drop (2 + long) s) → ⊥) → false ≡ eqb (number (take_record 2 long s)) 0
not-whole long s f =
    by-taken 2 long s (λ t. false ≡ eqb (number t) 0)
    (λ w. absurd (f w))
    (λ n g. sym (ne_eqb n 0 g))

-- by the kind that it says, where it is long enough and says its length
by_kind : (long : ℕ) (s : List ℕ) → 4 ≤ length s → 2 + long ≤ length s → length_said s ≡ long → eqb (kind_said s) 2 ≡ eqb (number (take_record 2 long s)) 0
unfolding is_due is_kind
by_kind long s present enough says = pick (eqb (kind_said s) 2) refl
  where
    pick : (b : Bool) → eqb (kind_said s) 2 ≡ b → eqb (kind_said s) 2 ≡ eqb (number (take_record 2 long s)) 0
    pick true e =
        let due : is_due 2 (kind_said s) ≡ true = rw (eqb-true (kind_said s) 2 e) in
        rw (e, whole 2 long s present due says enough)
    pick false e =
        rw e
        (not-whole long s (λ w. eqb-false (kind_said s) 2 e (sym (eqb-true 2 (kind_said s) (and_right (is_kind (kind_said s)) (eqb 2 (kind_said s)) w.due)))))

module _ (version at : ℕ) (bytes : List ℕ) (long : ℕ) (e : long ≡ record_length 2 version 0) where
  -- fewer bytes than the record takes
  pub told-short : length bytes < at + 2 + long → false ≡ eqb (number (take_record 2 (record_length 2 version 0) (drop at bytes))) 0
  told-short h =
      let left : length (drop at bytes) ≡ length bytes - at = length-drop at bytes in
      rw (← e) (not-whole long (drop at bytes) (λ w. omega arith))

  module _ (said : ℕ) (f : said ≡ number_of (take 2 (drop at bytes))) where
    -- another length
    pub told-length : (said ≡ long → ⊥) → false ≡ eqb (number (take_record 2 (record_length 2 version 0) (drop at bytes))) 0
    unfolding length_said
    told-length h = rw (← e) (not-whole long (drop at bytes) (λ w. h (f ∙ w.says)))

    -- and else by the kind
    pub told-kind : (kind : ℕ) → at + 2 + long ≤ length bytes → said ≡ long → kind ≡ number_of (take 2 (drop (at + 2) bytes)) → eqb kind 2 ≡ eqb (number (take_record 2 (record_length 2 version 0) (drop at bytes))) 0
    unfolding length_said kind_said
    told-kind kind h g k =
        let left : length (drop at bytes) ≡ length bytes - at = length-drop at bytes in
        let many : 16 ≤ long = omega (arith, stop-length version) in
        let next : kind ≡ kind_said (drop at bytes) = k ∙ ap (λ (s : List ℕ). number_of (take 2 s)) (sym (drop-drop 2 at bytes)) in
        rw (next, ← e) (by_kind long (drop at bytes) (omega arith) (omega arith) (sym f ∙ g))
