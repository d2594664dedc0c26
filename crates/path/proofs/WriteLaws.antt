-- Laws of the writing calls: which test decides, and what number 0 tells.
use Rattle.std.specs.Prelude.{Result, Ok}
use mathlib.Core.Path.{◌≡◌, refl, sym, ap, ◌∙◌}
use mathlib.Core.Bool.{Bool, true, false, ◌||◌, not}
use mathlib.Core.List.{List}
use Prim.Native.Nat.{ℕ, zero, suc, ◌+◌, ◌^◌, ◌≤◌, ◌<◌}
use native.Mathlib.Nat.{zero-add, add-zero}
use native.Mathlib.Omega.{arith}
use lib.Dec.{leb}
use lib.ListN.{length, drop}
use borrow.Author.Tests.{le-leb, lt-leb, leb-true, not-true}
use Rattle.base.specs.declared.Refusal.{Refusal}
use Rattle.base.specs.Outcome.{Outcome, gives, refuses, need, and_then, done, said, number, over}
use Rattle.base.proofs.Outcome.{passed, done-good, done-refused}
use Rattle.base.specs.Lists.{tabulate}
use Rattle.base.proofs.Lists.{tabulate-cong}
use Rattle.std.specs.List.{list_any, range_with_len}
use Rattle.stop.specs.declared.Stop.{Stop}
use Rattle.stop.specs.Lent.{LentStops, first_stops, judge_lent}
use Rattle.stop.proofs.Lent.{judged-gives}
use Rattle.path.specs.Path.{known_version, path_size, body_after_head, stop_place, stop_in, stops_in}
use Rattle.path.specs.Written.{loses_field, loses_any, path_bytes, write_stops, write_path, rewrite_after_head, BytesAreWritten}
use Rattle.path.specs.Local.{judge_form}
use Rattle.path.proofs.FormLaws.{form-refused, form-good}
use Rattle.path.proofs.JudgeLaws.{JudgedBody}
use Rattle.path.proofs.PlaceLaws.{place-within}
use Rattle.path.proofs.StopFields.{field-kept, newer-field}
use Rattle.path.proofs.StopLaws.{within-stop}
use Rattle.path.proofs.WrittenLaws.{length-written}

-- ---- fields that a version lacks

pub any_none : (version n : ℕ) (f : ℕ → Stop) → ((i : ℕ) → i < n → loses_field version (f i) ≡ false) → loses_any version (tabulate n f) ≡ false
unfolding loses_any
any_none version zero f h = refl
any_none version (suc n) f h = rw (h 0 (omega arith)) (any_none version n (λ i. f (suc i)) (λ i l. h (suc i) (omega arith)))

pub any_some : (version n : ℕ) (f : ℕ → Stop) (i : ℕ) → i < n → loses_field version (f i) ≡ true → loses_any version (tabulate n f) ≡ true
unfolding loses_any
any_some version zero f i l h = absurd (omega arith)
any_some version (suc n) f zero l h = rw h
any_some version (suc n) f (suc i) l h = rw (any_some version n (λ j. f (suc j)) i (omega arith) h) (or-true (loses_field version (f 0)))
  where
    or-true : (b : Bool) → (b || true) ≡ true
    or-true true = refl
    or-true false = refl

-- the same, found by a test of each number from the first to the last
pub any_of : (version n : ℕ) (f : ℕ → Stop) → list_any (λ i. loses_field version (f i)) (range_with_len 0 n) ≡ loses_any version (tabulate n f)
unfolding loses_any
any_of version n f = from 0 n ∙ ap (loses_any version) (tabulate-cong n (λ i. f (0 + i)) f (λ i h. ap f (zero-add i)))
  where
    from : (a n : ℕ) → list_any (λ i. loses_field version (f i)) (range_with_len a n) ≡ loses_any version (tabulate n (λ i. f (a + i)))
    from a zero = refl
    from a (suc n) =
        let next : tabulate n (λ i. f (a + 1 + i)) ≡ tabulate n (λ i. f (a + suc i)) = tabulate-cong n (λ i. f (a + 1 + i)) (λ i. f (a + suc i)) (λ i h. ap f (omega arith)) in
        rw (from (a + 1) n, next, add-zero)

-- stops that were read lose nothing in a version that is no older
pub none-newer : (version to n : ℕ) (bytes : List ℕ) → version ≤ to → stop_place version n ≤ length bytes → loses_any to (stops_in version n bytes) ≡ false
none-newer version to n bytes h room =
    any_none to n (λ i. stop_in version i bytes)
    (λ i l. newer-field version to (stop_in version i bytes) h (rw (within-stop version i bytes (place-within version i n (length bytes) l room)) (field-kept version (drop (4 + stop_place version i) bytes))))

-- ---- the last two tests, 13 and 8

module _ (version k room : ℕ) (ss : List Stop) where
  pub stops-lost : loses_any version ss ≡ true → write_stops version k room ss ≡ refuses 13
  unfolding write_stops
  stops-lost e = rw e

  pub stops-short : length ss ≡ 2 ^ k → loses_any version ss ≡ false → room < path_size version k → write_stops version k room ss ≡ refuses 8
  unfolding write_stops
  stops-short many e h = rw (e, length-written version k ss many, lt-leb _ _ h)

  pub stops-fit : length ss ≡ 2 ^ k → loses_any version ss ≡ false → path_size version k ≤ room → write_stops version k room ss ≡ gives (path_bytes version k ss)
  unfolding write_stops
  stops-fit many e h = rw (e, length-written version k ss many, le-leb _ _ h)

-- stops that are written: they lose nothing, and there is room
pub record Written (version k room : ℕ) (ss : List Stop) : Type 0 where
  pub kept : loses_any version ss ≡ false
  pub enough : path_size version k ≤ room
  pub same : write_stops version k room ss ≡ gives (path_bytes version k ss)

pub stops-written : (version k room : ℕ) (ss : List Stop) → length ss ≡ 2 ^ k → number (write_stops version k room ss) ≡ 0 → Written version k room ss
unfolding write_stops
stops-written version k room ss e z =
    let first = passed (not (loses_any version ss)) 13 (need (leb (length (path_bytes version k ss)) room) 8 (gives (path_bytes version k ss))) (omega arith) z in
    let second = passed (leb (length (path_bytes version k ss)) room) 8 (gives (path_bytes version k ss)) (omega arith) first.goes_on in
    record { kept = not-true _ first.holds; enough = rw (length-written version k ss e) at (leb-true (length (path_bytes version k ss)) room second.holds); same = first.same ∙ second.same }

-- ---- from lent stops

module _ (version k : ℕ) (lent : LentStops) (room : ℕ) where
  pub write-unformed : (n : ℕ) → refuses n ≡ judge_form version k → write_path version k lent room ≡ refuses n
  unfolding write_path
  write-unformed n e = form-refused version k n (and_then (judge_lent (2 ^ k) lent) (write_stops version k room)) e

  module _ (good : gives tt ≡ judge_form version k) where
    pub write-refused : (n : ℕ) → refuses n ≡ done (judge_lent (2 ^ k) lent) → write_path version k lent room ≡ refuses n
    unfolding write_path
    write-refused n e =
        let f = form-good version k good in
        rw (f.0, le-leb k 10 f.1, done-refused (judge_lent (2 ^ k) lent) n e)

    pub write-output : gives tt ≡ done (judge_lent (2 ^ k) lent) → write_path version k lent room ≡ write_stops version k room (first_stops (2 ^ k) lent)
    unfolding write_path
    write-output e =
        let f = form-good version k good in
        rw (f.0, le-leb k 10 f.1, judged-gives (2 ^ k) lent (done-good (judge_lent (2 ^ k) lent) e))

-- what is known of a writing whose number is 0: k is small enough, the path's size, that there is room, and what is written
pub record Writable (k size room : ℕ) (o : Outcome (List ℕ)) (bytes : List ℕ) : Type 0 where
  pub small : k ≤ 10
  pub long : length bytes ≡ size
  pub enough : size ≤ room
  pub same : o ≡ gives bytes

-- ---- from path bytes

module _ (bytes : List ℕ) (version k wanted room : ℕ) where
  pub rewrite-body : (n : ℕ) → refuses n ≡ done (body_after_head bytes version k) → rewrite_after_head bytes version k wanted room ≡ refuses n
  unfolding rewrite_after_head
  rewrite-body n e = rw (done-refused (body_after_head bytes version k) n e)

  module _ (body : JudgedBody bytes version k) where
    -- the wanted version is judged with a k that is known to be small
    pub rewrite-unformed : (n : ℕ) → refuses n ≡ judge_form wanted k → rewrite_after_head bytes version k wanted room ≡ refuses n
    unfolding rewrite_after_head
    rewrite-unformed n e =
        rw body.stops (sym (ap (λ (b : Bool). need (known_version wanted) 4 (need b 5 (write_stops wanted k room (stops_in version (2 ^ k) bytes)))) (le-leb k 10 body.small)) ∙ form-refused wanted k n (write_stops wanted k room (stops_in version (2 ^ k) bytes)) e)

    pub rewrite-output : gives tt ≡ judge_form wanted k → rewrite_after_head bytes version k wanted room ≡ write_stops wanted k room (stops_in version (2 ^ k) bytes)
    unfolding rewrite_after_head
    rewrite-output e = rw (body.stops, (form-good wanted k e).0)

-- ---- what the calls promise

pub bytes-refused : (o : Outcome (List ℕ)) (before : List ℕ) (r : Result ℕ Refusal) (n : ℕ) → said r ≡ refuses n → o ≡ refuses n → BytesAreWritten o before before r
bytes-refused o before r n s e = record { said = s ∙ rw e; left = rw e }

pub bytes-done : (o : Outcome (List ℕ)) (bytes before afterwards : List ℕ) (n : ℕ) → o ≡ gives bytes → n ≡ length bytes → afterwards ≡ over bytes before → BytesAreWritten o before afterwards (Ok n)
bytes-done o bytes before afterwards n e s l = record { said = rw (e, s); left = rw e l }
