-- Laws of a path's body: it is judged stop by stop, and where nothing is refused the stops are those at their places.
use mathlib.Core.Path.{◌≡◌, refl, sym, ap, ◌∙◌}
use mathlib.Core.Bool.{Bool, true, false, cond}
use mathlib.Core.List.{List, [], ◌∷◌}
use Prim.Native.Nat.{ℕ, zero, suc, ◌+◌, ◌-◌, ◌*◌, ◌≤◌, ◌<◌}
use native.Mathlib.Nat.{zero-mul, suc-mul}
use native.Mathlib.Omega.{arith}
use lib.Dec.{eqb, leb}
use lib.ListN.{length, drop, length-drop}
use lib.Seq.{drop-drop}
use borrow.Author.Tests.{eqb-true, eqb-false, ne_eqb, le-leb}
use Rattle.base.specs.Refusal.{trailing_bytes}
use Rattle.base.specs.Outcome.{gives, refuses, need, and_then, giving, done, number}
use Rattle.base.proofs.Outcome.{refused, number-giving, giving-giving}
use Rattle.base.specs.Lists.{tabulate}
use Rattle.base.proofs.Lists.{tabulate-cong}
use Rattle.records.specs.Record.{record_length, take_record}
use Rattle.records.proofs.LengthLaws.{end-length}
use Rattle.records.proofs.RecordLaws.{by-taken, number-good}
use Rattle.stop.specs.declared.Stop.{Stop}
use Rattle.stop.specs.Stop.{zero_stop}
use Rattle.stop.specs.Lent.{all_in_range}
use Rattle.path.specs.Path.{stop_of, stop_in, stops_in, read_stop, stop_then, end_of, stop_size, stop_place, read_body}
use Rattle.path.proofs.PlaceLaws.{place_is, place-suc, next_place}
use Rattle.path.proofs.StopLaws.{stop-good, stop-bad, stop-present, stop-range}

pub body-zero : (version : ℕ) (s : List ℕ) → read_body version 0 s ≡ and_then (take_record 3 (record_length 3 version 0) s) end_of
unfolding read_body
body-zero version s = refl

pub body-suc : (version n : ℕ) (s : List ℕ) → read_body version (suc n) s ≡ and_then (take_record 2 (record_length 2 version 0) s) (stop_then version (read_body version n))
unfolding read_body
body-suc version n s = refl

-- ---- stop by stop

-- after a good stop the body is that stop and the rest
pub body-after : (version n : ℕ) (s : List ℕ) → number (read_stop version s) ≡ 0 → read_body version (suc n) s ≡ giving (λ ss. stop_of version (drop 4 s) ∷ ss) (read_body version n (drop (stop_size version) s))
body-after version n s h = body-suc version n s ∙ stop-good version (read_body version n) s h

-- a refused stop refuses the body
pub body_refused : (version n : ℕ) (s : List ℕ) (r : ℕ) → read_stop version s ≡ refuses r → read_body version (suc n) s ≡ refuses r
body_refused version n s r e = body-suc version n s ∙ stop-bad version (read_body version n) s r e

-- at the place of stop i of some bytes: after a good one what is said is what the rest says
pub place_after : (version n i : ℕ) (bytes : List ℕ) → number (read_stop version (drop (stop_place version i) bytes)) ≡ 0 → done (read_body version (suc n) (drop (stop_place version i) bytes)) ≡ done (read_body version n (drop (stop_place version (suc i)) bytes))
place_after version n i bytes h =
    ap done (body-after version n (drop (stop_place version i) bytes) h)
    ∙ giving-giving _ (λ ss. tt) (read_body version n (drop (stop_size version) (drop (stop_place version i) bytes)))
    ∙ ap (λ (s : List ℕ). done (read_body version n s)) (drop-drop (stop_size version) (stop_place version i) bytes ∙ rw place-suc)

-- ---- the end

module _ (version : ℕ) (s : List ℕ) where
  pub end_refused : (n : ℕ) → take_record 3 (record_length 3 version 0) s ≡ refuses n → read_body version 0 s ≡ refuses n
  end_refused n e = rw (body-zero version s, e)

  end-taken : number (take_record 3 (record_length 3 version 0) s) ≡ 0 → read_body version 0 s ≡ need (eqb (length (drop 4 s)) 0) trailing_bytes (gives [])
  unfolding end_of
  end-taken e = rw (body-zero version s, number-good 3 (record_length 3 version 0) s e, end-length)

  pub end-trailing : number (take_record 3 (record_length 3 version 0) s) ≡ 0 → 4 < length s → read_body version 0 s ≡ refuses 7
  end-trailing e h =
      let more : length (drop 4 s) ≡ 0 → ⊥ = λ z. let l : length (drop 4 s) ≡ length s - 4 = length-drop 4 s in omega arith in
      end-taken e ∙ rw (ne_eqb _ _ more)

  pub end-good : number (take_record 3 (record_length 3 version 0) s) ≡ 0 → length s ≤ 4 → read_body version 0 s ≡ gives []
  end-good e h =
      let none : length (drop 4 s) ≡ 0 = rw length-drop (omega arith) in
      end-taken e ∙ rw none

-- ---- the stops of an accepted body

-- an accepted end is the end record and nothing after it
end_is : (version : ℕ) (s : List ℕ) → number (read_body version 0 s) ≡ 0 → (read_body version 0 s ≡ gives []) × (length s ≡ 4)
unfolding read_body end_of
end_is version s =
    by-taken 3 (record_length 3 version 0) s (λ t. number (and_then t end_of) ≡ 0 → (and_then t end_of ≡ gives []) × (length s ≡ 4))
    (λ w. pick (eqb (length (drop (2 + record_length 3 version 0) s)) 0) refl w.enough)
    (λ n f e. absurd (f e))
  where
    pick : (b : Bool) → eqb (length (drop (2 + record_length 3 version 0) s)) 0 ≡ b → 2 + record_length 3 version 0 ≤ length s → number (need {A = List Stop} b trailing_bytes (gives [])) ≡ 0 → (need {A = List Stop} b trailing_bytes (gives []) ≡ gives []) × (length s ≡ 4)
    pick true z h e = (refl, omega (arith, eqb-true (length (drop (2 + record_length 3 version 0) s)) 0 z, length-drop (2 + record_length 3 version 0) s, end-length version))
    pick false z h e = absurd (omega arith)

-- stop i of bytes that begin with a stop's record
at-record : (version : ℕ) (s : List ℕ) (i : ℕ) → Stop
at-record version s i = stop_of version (drop (4 + i * stop_size version) s)

stops-after : (version n : ℕ) (s : List ℕ) → stop_of version (drop 4 s) ∷ tabulate n (at-record version (drop (stop_size version) s)) ≡ tabulate (suc n) (at-record version s)
unfolding at-record
stops-after version n s =
    ap (λ (st : Stop). st ∷ tabulate n (at-record version (drop (stop_size version) s))) (rw zero-mul)
    ∙ ap (λ (l : List Stop). at-record version s 0 ∷ l)
    (tabulate-cong n (at-record version (drop (stop_size version) s)) (λ i. at-record version s (suc i)) (λ i h. shifted i))
  where
    shifted : (i : ℕ) → stop_of version (drop (4 + i * stop_size version) (drop (stop_size version) s)) ≡ stop_of version (drop (4 + suc i * stop_size version) s)
    shifted i =
        let e : stop_size version + (4 + i * stop_size version) ≡ 4 + suc i * stop_size version = rw suc-mul (omega arith) in
        ap (stop_of version) (drop-drop (4 + i * stop_size version) (stop_size version) s ∙ rw e)

-- a body whose number is 0: the stops at their places, all in range, in just these bytes
record Body (version n : ℕ) (s : List ℕ) : Type 0 where
  pub stops : read_body version n s ≡ gives (tabulate n (at-record version s))
  pub size : length s ≡ n * stop_size version + 4
  pub range : all_in_range (tabulate n (at-record version s)) ≡ true

body_is : (version n : ℕ) (s : List ℕ) → number (read_body version n s) ≡ 0 → Body version n s
unfolding all_in_range
body_is version zero s e = let d = end_is version s e in record { stops = d.0; size = rw zero-mul d.1; range = refl }
body_is version (suc n) s e = pick (eqb (number (read_stop version s)) 0) refl (body_is version n (drop (stop_size version) s))
  where
    pick : (b : Bool) → eqb (number (read_stop version s)) 0 ≡ b → (number (read_body version n (drop (stop_size version) s)) ≡ 0 → Body version n (drop (stop_size version) s)) → Body version (suc n) s
    pick true t ih =
        let first : number (read_stop version s) ≡ 0 = eqb-true _ _ t in
        let b = ih (sym (number-giving _ (read_body version n (drop (stop_size version) s))) ∙ sym (ap number (body-after version n s first)) ∙ e) in
        let part : length (drop (stop_size version) s) ≡ length s - stop_size version = length-drop (stop_size version) s in
        let enough : stop_size version ≤ length s = stop-present version s first in
        let rest : length (drop (stop_size version) s) ≡ n * stop_size version + 4 = b.size in
        record {
          stops = body-after version n s first ∙ ap (giving (λ ss. stop_of version (drop 4 s) ∷ ss)) b.stops ∙ ap gives (stops-after version n s);
          size = rw suc-mul (omega arith);
          range = ap all_in_range (sym (stops-after version n s)) ∙ rw (stop-range version s first, b.range);
        }
    pick false t ih = absurd (eqb-false _ _ t (sym (ap number (body_refused version n s _ (refused (read_stop version s) _ refl (eqb-false _ _ t)))) ∙ e))

-- where nothing after the head is refused, the stops are those at their places
pub record StopsInPlace (version n : ℕ) (bytes : List ℕ) : Type 0 where
  pub stops : read_body version n (drop 8 bytes) ≡ gives (stops_in version n bytes)
  pub size : length bytes ≡ stop_place version n + 4
  pub range : all_in_range (stops_in version n bytes) ≡ true

pub body-in : (version n : ℕ) (bytes : List ℕ) → number (read_body version n (drop 8 bytes)) ≡ 0 → StopsInPlace version n bytes
unfolding at-record stop_in
body-in version n bytes e =
    let b = body_is version n (drop 8 bytes) e in
    let part : length (drop 8 bytes) ≡ length bytes - 8 = length-drop 8 bytes in
    let inner : length (drop 8 bytes) ≡ n * stop_size version + 4 = b.size in
    let size : length bytes ≡ stop_place version n + 4 = rw place_is (omega arith) in
    let same : tabulate n (at-record version (drop 8 bytes)) ≡ stops_in version n bytes = tabulate-cong n (at-record version (drop 8 bytes)) (λ i. stop_in version i bytes) (moved size) in
    record { stops = b.stops ∙ ap gives same; size = size; range = ap all_in_range (sym same) ∙ b.range }
  where
    moved : length bytes ≡ stop_place version n + 4 → (i : ℕ) → i < n → stop_of version (drop (4 + i * stop_size version) (drop 8 bytes)) ≡ cond (leb (stop_place version i + stop_size version) (length bytes)) (stop_of version (drop (4 + stop_place version i) bytes)) zero_stop
    moved size i h =
        let here : stop_place version i ≡ 8 + i * stop_size version = place_is version i in
        let last : stop_place version n ≡ 8 + n * stop_size version = place_is version n in
        let room : i * stop_size version + stop_size version ≤ n * stop_size version = next_place i n (stop_size version) h in
        let e : 8 + (4 + i * stop_size version) ≡ 4 + stop_place version i = omega arith in
        rw (le-leb (stop_place version i + stop_size version) (length bytes) (omega arith)) (ap (stop_of version) (drop-drop (4 + i * stop_size version) 8 bytes ∙ rw e))
