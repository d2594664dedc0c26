-- Laws of the table of travel times: its length, each entry and a bound on them, and what the call promises.
use mathlib.Core.Path.{◌≡◌, refl, sym, ap, subst, ◌∙◌}
use mathlib.Core.Bool.{true}
use mathlib.Core.List.{List}
use Prim.Native.Nat.{ℕ, zero, suc, ◌+◌, ◌*◌, ◌/◌, ◌%◌, ◌^◌, ◌≤◌, ◌<◌}
use native.Mathlib.Decide.{dec_lt}
use native.Mathlib.Nat.{div-add-mod', div-lt_iff_lt-mul, mod-lt}
use native.Mathlib.Omega.{arith}
use lib.Dec.{leb, eqb}
use lib.ListN.{length, get_or, get_or-eq_default}
use borrow.Author.Tests.{eqb-true, leb-true, eq-eqb, le-leb}
use Rattle.std.specs.Prelude.{Result, Ok, Err}
use Rattle.base.specs.declared.Refusal.{Refusal}
use Rattle.base.specs.Refusal.{wrong_k, wrong_size, refusal_number}
use Rattle.base.specs.Outcome.{Outcome, gives, refuses, giving, done, said, number}
use Rattle.base.specs.Size.{max_k, stop_count}
use Rattle.base.proofs.Size.{stop_count-pow}
use Rattle.base.specs.Lists.{tabulate}
use Rattle.base.proofs.Outcome.{passed, number-giving, number-first, done-good, gives-not-refuses, over-whole}
use Rattle.base.proofs.Lists.{length-tabulate, get_or-tabulate}
use Rattle.stop.specs.declared.Stop.{Stop}
use Rattle.stop.specs.Stop.{in_range, zero_stop}
use Rattle.stop.specs.Lent.{LentStops, first_stops, all_in_range, stops_fit, judge_all, judge_lent, Judged}
use Rattle.stop.proofs.Lent.{each-good, judged-lent, judged-gives}
use Rattle.path.specs.Path.{body_after_head, stops_in}
use Rattle.path.proofs.JudgeLaws.{JudgedBody, body-good}
use Rattle.times.specs.Time.{time_between, longest_time}
use Rattle.times.specs.Table.{entry_of, table_of, table_room, make_table, table_from, TableIsMade}
use Rattle.times.proofs.Time.{time_between-bound}
use Rattle.times.proofs.Rows.{length-rows, get_or-rows}

-- ---- the table's entries

-- n² entries
pub length-table : (stops : List Stop) → length (table_of stops) ≡ length stops * length stops
unfolding table_of
length-table stops =
    length-rows (length stops) (length stops) (λ from. tabulate (length stops) (entry_of stops from)) (λ from. length-tabulate (length stops) (entry_of stops from))

-- row 'from', column 'to'
pub get_or-table : (stops : List Stop) (from to : ℕ) → from < length stops → to < length stops → get_or (table_of stops) (from * length stops + to) 0 ≡ time_between from to (get_or stops from zero_stop) (get_or stops to zero_stop)
unfolding table_of entry_of
get_or-table stops from to h k =
    get_or-rows (length stops) (length stops) (λ from. tabulate (length stops) (entry_of stops from)) from to 0 (λ from. length-tabulate (length stops) (entry_of stops from)) h k
    ∙ get_or-tabulate (length stops) (entry_of stops from) to 0 k

-- every entry of stops in range is at most the longest time
pub table-bound : (stops : List Stop) (from to : ℕ) → all_in_range stops ≡ true → from < length stops → to < length stops → get_or (table_of stops) (from * length stops + to) 0 ≤ longest_time
table-bound stops from to g h k =
    rw (get_or-table stops from to h k)
    (time_between-bound from to (get_or stops from zero_stop) (get_or stops to zero_stop) (each-good stops from zero_stop g h) (each-good stops to zero_stop g k))

-- and so is what is read at any place, also beyond the end
pub table-small : (stops : List Stop) → all_in_range stops ≡ true → (i : ℕ) → get_or (table_of stops) i 0 ≤ longest_time
table-small stops g i = go (dec_lt i (length stops * length stops))
  where
    inside : (m : ℕ) → length stops ≡ m → i < length stops * length stops → get_or (table_of stops) i 0 ≤ longest_time
    inside zero e x = let none : i < 0 * 0 = subst (λ (y : ℕ). i < y * y) e x in absurd (omega arith)
    inside (suc m) e x =
        let positive : 0 < length stops = omega arith in
        subst (λ (j : ℕ). get_or (table_of stops) j 0 ≤ longest_time) (div-add-mod' i (length stops))
        (table-bound stops (i / length stops) (i % length stops) g ((div-lt_iff_lt-mul positive).1 x) (mod-lt i positive))

    go : Dec (i < length stops * length stops) → get_or (table_of stops) i 0 ≤ longest_time
    go (yes h) = inside (length stops) refl h
    go (no h) = let past : length (table_of stops) ≤ i = rw (length-table stops) (omega arith) in rw (get_or-eq_default (table_of stops) 0 {n = i} past) (omega arith)

-- the entry for two stops of a source is the time between them
pub source-entry : (n : ℕ) (f : ℕ → Stop) (from to : ℕ) (a b : Stop) (t : ℕ) → from < n → to < n → a ≡ f from → b ≡ f to → t ≡ time_between from to a b → t ≡ entry_of (tabulate n f) from to
unfolding entry_of
source-entry n f from to a b t h k ea eb e = rw (get_or-tabulate n f from zero_stop h, get_or-tabulate n f to zero_stop k, ← ea, ← eb) e

-- a stop of a source whose stops are all in range
pub source-good : (n : ℕ) (f : ℕ → Stop) (i : ℕ) (b : Stop) → all_in_range (tabulate n f) ≡ true → i < n → b ≡ f i → in_range b ≡ true
source-good n f i b g h e =
    rw (e, ← get_or-tabulate n f i zero_stop h) (each-good (tabulate n f) i zero_stop g (rw (length-tabulate n f) h))

-- ---- the calls

-- a k and a size that are judged 0
pub record Room (k size : ℕ) : Type 0 where
  pub small : k ≤ max_k
  pub square : size ≡ 2 ^ k * 2 ^ k
  pub passes : table_room k size ≡ gives tt

pub room : (k size : ℕ) → number (table_room k size) ≡ 0 → Room k size
unfolding table_room
room k size e =
    let small = passed (leb k max_k) wrong_k _ (omega arith) e in
    let square = passed (eqb size (2 ^ k * 2 ^ k)) wrong_size (gives tt) (omega arith) small.goes_on in
    record { small = leb-true _ _ small.holds; square = eqb-true _ _ square.holds; passes = small.same ∙ square.same }

-- so it is where nothing is refused, and there are 2^k stops
pub roomy : (k size : ℕ) → gives tt ≡ table_room k size → Room k size
roomy k size e = room k size (sym (ap number e))

pub roomy-count : (k size n : ℕ) → gives tt ≡ table_room k size → n ≡ stop_count k → n ≡ 2 ^ k
roomy-count k size n e c = c ∙ stop_count-pow k (roomy k size e).small

-- a k up to 10 and n² places pass
pub room-passes : (k size : ℕ) → k ≤ max_k → size ≡ 2 ^ k * 2 ^ k → table_room k size ≡ gives tt
unfolding table_room
room-passes k size h e = rw (le-leb k max_k h, eq-eqb _ _ e)

-- what comes after it is then the path's stops
pub by-stops : (bytes : List ℕ) (version k size : ℕ) → k ≤ max_k → size ≡ 2 ^ k * 2 ^ k → table_from bytes version k size ≡ giving table_of (body_after_head bytes version k)
unfolding table_from
by-stops bytes version k size h e = rw (room-passes k size h e)

-- what a call that is judged 0 has, and gives
pub record Accepted (k : ℕ) (lent : LentStops) (size : ℕ) : Type 0 where
  pub small : k ≤ max_k
  pub square : size ≡ 2 ^ k * 2 ^ k
  pub stops : Judged (2 ^ k) lent
  pub gives-table : make_table k lent size ≡ gives (table_of (first_stops (2 ^ k) lent))

pub accepted : (k : ℕ) (lent : LentStops) (size : ℕ) → number (make_table k lent size) ≡ 0 → Accepted k lent size
unfolding make_table
accepted k lent size e =
    let r = room k size (number-first (table_room k size) (λ fits. giving table_of (judge_lent (2 ^ k) lent)) e) in
    let stops : number (judge_lent (2 ^ k) lent) ≡ 0 = sym (number-giving table_of (judge_lent (2 ^ k) lent)) ∙ rw r.passes at e in
    record {
      small = r.small;
      square = r.square;
      stops = judged-lent (2 ^ k) lent stops;
      gives-table = rw (r.passes, judged-gives (2 ^ k) lent stops);
    }

-- the same of path bytes
pub record AcceptedPath (bytes : List ℕ) (version k size : ℕ) : Type 0 where
  pub square : size ≡ 2 ^ k * 2 ^ k
  pub body : JudgedBody bytes version k
  pub gives-table : table_from bytes version k size ≡ gives (table_of (stops_in version (2 ^ k) bytes))

pub accepted-path : (bytes : List ℕ) (version k size : ℕ) → number (table_from bytes version k size) ≡ 0 → AcceptedPath bytes version k size
unfolding table_from
accepted-path bytes version k size e =
    let r = room k size (number-first (table_room k size) (λ fits. giving table_of (body_after_head bytes version k)) e) in
    let body = body-good bytes version k (sym (number-giving table_of (body_after_head bytes version k)) ∙ rw r.passes at e) in
    record { square = r.square; body = body; gives-table = rw (r.passes, body.stops) }

-- the table of a source of 2^k stops is as long as the buffer
pub square-table : (k size : ℕ) (f : ℕ → Stop) → size ≡ 2 ^ k * 2 ^ k → length (table_of (tabulate (2 ^ k) f)) ≡ size
square-table k size f e = length-table (tabulate (2 ^ k) f) ∙ rw (length-tabulate (2 ^ k) f) (sym e)

-- ---- the promise

-- after a refusal: of its room, or of what comes after it
pub table-refused : (o : Outcome (List ℕ)) (before : List ℕ) (r : Result Unit Refusal) (n : ℕ) → said r ≡ refuses n → o ≡ refuses n → TableIsMade o before before r
table-refused o before r n e f = record { said = rw (e, f); left = rw f }

pub make-unroomed : (k : ℕ) (lent : LentStops) (size n : ℕ) → table_room k size ≡ refuses n → make_table k lent size ≡ refuses n
unfolding make_table
make-unroomed k lent size n e = rw e

pub make-unjudged : (k : ℕ) (lent : LentStops) (size n : ℕ) → table_room k size ≡ gives tt → judge_lent (2 ^ k) lent ≡ refuses n → make_table k lent size ≡ refuses n
unfolding make_table
make-unjudged k lent size n e f = rw (e, f)

pub path-unroomed : (bytes : List ℕ) (version k size n : ℕ) → table_room k size ≡ refuses n → table_from bytes version k size ≡ refuses n
unfolding table_from
path-unroomed bytes version k size n e = rw e

pub path-unjudged : (bytes : List ℕ) (version k size n : ℕ) → table_room k size ≡ gives tt → body_after_head bytes version k ≡ refuses n → table_from bytes version k size ≡ refuses n
unfolding table_from
path-unjudged bytes version k size n e f = rw (e, f)

-- lent stops that were judged are there
pub lent-there : (n : ℕ) (lent : LentStops) → number (judge_lent n lent) ≡ 0 → stops_fit n lent ≡ true
unfolding judge_lent
lent-there n lent e = (passed (stops_fit n lent) wrong_size (judge_all (first_stops n lent)) (omega arith) e).holds

-- after success
pub make-accepted : (k : ℕ) (lent : LentStops) (size : ℕ) → table_room k size ≡ gives tt → number (judge_lent (2 ^ k) lent) ≡ 0 → make_table k lent size ≡ gives (table_of (first_stops (2 ^ k) lent))
unfolding make_table
make-accepted k lent size e f = rw (e, judged-gives (2 ^ k) lent f)

pub path-accepted : (bytes : List ℕ) (version k size : ℕ) → table_room k size ≡ gives tt → JudgedBody bytes version k → table_from bytes version k size ≡ gives (table_of (stops_in version (2 ^ k) bytes))
unfolding table_from
path-accepted bytes version k size e b = rw (e, b.stops)

pub table-made : (o : Outcome (List ℕ)) (table before afterwards : List ℕ) → o ≡ gives table → length table ≡ length before → afterwards ≡ table → TableIsMade o before afterwards (Ok tt)
table-made o table before afterwards e l w = record { said = rw e; left = rw e (w ∙ sym (over-whole table before l)) }

-- an answer `Ok` tells that nothing was refused
pub when-made : (o : Outcome (List ℕ)) (before afterwards : List ℕ) → TableIsMade o before afterwards (Ok tt) → number o ≡ 0
when-made o before afterwards p = done-good o p.said

-- an outcome that is a table is answered by `Ok`, and leaves it
pub made-when : (o : Outcome (List ℕ)) (table before afterwards : List ℕ) (r : Result Unit Refusal) → o ≡ gives table → length table ≡ length before → TableIsMade o before afterwards r → (r ≡ Ok tt) × (afterwards ≡ table)
made-when o table before afterwards r e l p = (only-made r (p.said ∙ ap done e), p.left ∙ rw e (over-whole table before l))
  where
    only-made : (r : Result Unit Refusal) → said r ≡ gives tt → r ≡ Ok tt
    only-made (Ok u) e = refl
    only-made (Err r) e = absurd (gives-not-refuses tt (refusal_number r) (sym e))
