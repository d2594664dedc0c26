-- What an accepted call knows of its lengths and bytes, and that accepted and refused calls keep their promise.
use mathlib.Core.Path.{◌≡◌, sym, ap, ap₂, subst, ◌∙◌}
use mathlib.Core.Bool.{Bool, true, false, ◌&&◌}
use mathlib.Core.List.{List, ◌++◌}
use Rattle.std.specs.Prelude.{Ok}
use Prim.Native.Nat.{ℕ, ◌+◌, ◌*◌, ◌/◌, ◌^◌, ◌≤◌, ◌<◌}
use native.Mathlib.Omega.{arith}
use lib.Dec.{leb, eqb}
use lib.ListN.{length, take, drop, replicate, length-replicate}
use lib.Pow.{pow_mono}
use lib.Seq.{length-take-le}
use borrow.Author.Tests.{leb-true, eqb-true}
use Rattle.base.specs.Refusal.{wrong_k, wrong_size, out_of_range}
use Rattle.base.specs.Outcome.{Outcome, gives, refuses, need, number, over}
use Rattle.base.specs.Size.{stop_count}
use Rattle.base.proofs.Bools.{both}
use Rattle.base.proofs.Size.{stop_count-pow}
use Rattle.base.proofs.Outcome.{passed, over-front}
use Rattle.records.specs.Field.{bytes_of}
use Rattle.records.proofs.FieldLaws.{length-bytes_of}
use Rattle.tree.specs.Neighbour.{in_place}
use Rattle.tree.specs.Total.{entry, total}
use Rattle.tree.specs.Wanted.{backward}
use Rattle.walks.specs.Places.{stops_to}
use Rattle.orders.specs.Bits.{byte_count, bit_string, set_of_bits}
use Rattle.orders.proofs.Bits.{only-forks, set-of-string}
use Rattle.filled.specs.declared.ListPlanned.{ListPlanned}
use Rattle.filled.specs.declared.tray.Tray.{Tray}
use Rattle.filled.specs.Filled.{max_filled_k, bytes_in, filled_in, flags, list_fits, list_room, lengths_first, plan_list, Accepted, ListIsPlanned}
use Rattle.filled.specs.Forks.{list_forks, ForksOfList}
use Rattle.filled.specs.Lists.{wanted_list}
use Rattle.filled.specs.Moves.{moves_forks}
use Rattle.filled.specs.Row.{in_set, filled_of, times_of, set_of}
use Rattle.filled.specs.Walk.{wanted_of, count_of, ListIsWritten}
use Rattle.filled.proofs.Flags.{set-lt, set-filled}
use Rattle.filled.proofs.Meant.{list_forks-read, list_forks-meant}
use Rattle.filled.proofs.Walked.{count-is, wanted-below}
use Rattle.filled.proofs.Wanted.{wanted_list-given, wanted_list-shortest}

-- ---- judging

-- the lengths of an accepted call, and its bytes
pub record Fit (k table : ℕ) (empties : List ℕ) (list bits work : ℕ) : Type 0 where
  pub small : k ≤ 6
  pub square : table ≡ 2 ^ k * 2 ^ k
  pub bytes : 2 ^ k ≤ length empties
  pub places : 2 ^ k ≤ list
  pub string : byte_count (2 ^ k) ≤ bits
  pub rows : 2 ^ k * 2 ^ k ≤ work

-- the same by the count of stops that the code has
pub record Counted (k n table : ℕ) (empties : List ℕ) (list bits work : ℕ) : Type 0 where
  pub small : k ≤ 6
  pub stops : n ≡ 2 ^ k
  pub few : n ≤ 64
  pub square : table ≡ n * n
  pub bytes : n ≤ length empties
  pub places : n ≤ list
  pub string : byte_count n ≤ bits
  pub rows : n * n ≤ work

pub small-count : (k n : ℕ) → k ≤ 6 → n ≡ stop_count k → (n ≡ 2 ^ k) × (n ≤ 64)
small-count k n h e =
    let stops : n ≡ 2 ^ k = e ∙ stop_count-pow k (omega arith) in
    (stops, rw stops (pow_mono {i = k} {j = 6} h))

module _ (k table : ℕ) (empties : List ℕ) (list bits work : ℕ) where
  count-fits : (n : ℕ) → n ≡ stop_count k → Fit k table empties list bits work → Counted k n table empties list bits work
  count-fits n e f =
      let c = small-count k n f.small e in
      record { small = f.small; stops = c.0; few = c.1; square = rw c.0 f.square; bytes = rw c.0 f.bytes; places = rw c.0 f.places; string = rw c.0 f.string; rows = rw c.0 f.rows }

  -- what the tests of k and of the lengths say
  fits : leb k max_filled_k ≡ true → list_fits (2 ^ k) table (length empties) list bits work ≡ true → Fit k table empties list bits work
  unfolding list_fits
  fits e h =
      let n = 2 ^ k in
      let p = both (eqb table (n * n) && leb n (length empties) && leb n list && leb (byte_count n) bits) (leb (n * n) work) h in
      let q = both (eqb table (n * n) && leb n (length empties) && leb n list) (leb (byte_count n) bits) p.0 in
      let r = both (eqb table (n * n) && leb n (length empties)) (leb n list) q.0 in
      let s = both (eqb table (n * n)) (leb n (length empties)) r.0 in
      record {
        small = leb-true _ _ e;
        square = eqb-true _ _ s.0;
        bytes = leb-true _ _ s.1;
        places = leb-true _ _ r.1;
        string = leb-true _ _ q.1;
        rows = leb-true _ _ p.1;
      }

  -- lengths that are accepted
  pub lengths-fit : number (lengths_first k table (length empties) list bits work (gives tt)) ≡ 0 → Fit k table empties list bits work
  unfolding lengths_first
  lengths-fit e =
      let first = passed (leb k max_filled_k) wrong_k _ (omega arith) e in
      fits first.holds (passed (list_fits (2 ^ k) table (length empties) list bits work) wrong_size (gives tt) (omega arith) first.goes_on).holds

  -- and by their outcome
  pub lengths-given : gives tt ≡ lengths_first k table (length empties) list bits work (gives tt) → Fit k table empties list bits work
  lengths-given e = lengths-fit (ap number (sym e))

  pub lengths-counted : (n : ℕ) → n ≡ stop_count k → gives tt ≡ lengths_first k table (length empties) list bits work (gives tt) → Counted k n table empties list bits work
  lengths-counted n c e = count-fits n c (lengths-given e)

  -- lengths that are not: the call's refusal
  pub lengths-refused : (r : ℕ) → refuses r ≡ lengths_first k table (length empties) list bits work (gives tt) → refuses r ≡ list_room k table empties list bits work
  unfolding lengths_first list_room
  lengths-refused r e = go (leb k max_filled_k) (list_fits (2 ^ k) table (length empties) list bits work) e
    where
      yes-no : Bool → Outcome Unit
      yes-no b = need b out_of_range (gives tt)

      go : (a b : Bool) → refuses r ≡ need a wrong_k (need b wrong_size (yes-no true)) → refuses r ≡ need a wrong_k (need b wrong_size (yes-no (flags (bytes_in k empties))))
      go true true e = let z : ◌≡◌ {A = ℕ} 0 1 = cc in absurd (omega arith)
      go true false e = e
      go false b e = e

  -- where they are accepted the bytes decide
  pub flags-decide : (n : ℕ) → n ≡ stop_count k → gives tt ≡ lengths_first k table (length empties) list bits work (gives tt) → (b : Bool) → b ≡ flags (take n empties)
      → need b out_of_range (gives tt) ≡ list_room k table empties list bits work
  unfolding lengths_first list_room
  flags-decide n c e b g =
      let f : b ≡ flags (bytes_in k empties) = g ∙ ap (λ m. flags (take m empties)) (lengths-counted n c e).stops in
      let first = passed (leb k max_filled_k) wrong_k _ (omega arith) (ap number (sym e)) in
      let second = passed (list_fits (2 ^ k) table (length empties) list bits work) wrong_size (gives tt) (omega arith) first.goes_on in
      rw (first.holds, second.holds, f)

  -- an accepted call
  pub judged : number (list_room k table empties list bits work) ≡ 0 → Fit k table empties list bits work × (flags (bytes_in k empties) ≡ true) × (list_room k table empties list bits work ≡ gives tt)
  unfolding lengths_first list_room
  judged e =
      let first = passed (leb k max_filled_k) wrong_k _ (omega arith) e in
      let second = passed (list_fits (2 ^ k) table (length empties) list bits work) wrong_size _ (omega arith) first.goes_on in
      let third = passed (flags (bytes_in k empties)) out_of_range (gives tt) (omega arith) second.goes_on in
      (fits first.holds second.holds, third.holds, first.same ∙ second.same ∙ third.same)

  -- and by its outcome
  room-fits : gives tt ≡ list_room k table empties list bits work → Fit k table empties list bits work
  room-fits e = (judged (ap number (sym e))).0

  pub room-counted : (n : ℕ) → n ≡ stop_count k → gives tt ≡ list_room k table empties list bits work → Counted k n table empties list bits work
  room-counted n c e = count-fits n c (room-fits e)

-- ---- the run

module _ (tray : Tray) where
  abbrev w : List ℕ
  w = wanted_of tray

  -- the forks that are read off the list's moves are its forks
  forks-read : moves_forks tray.k (stops_to (in_place w) (length w)) ≡ list_forks tray.k (filled_of tray) w
  forks-read =
      let g = wanted_list-given tray.k (filled_of tray) (times_of tray) in
      sym (subst (λ l. list_forks tray.k (filled_of tray) l ≡ moves_forks tray.k (backward l)) g.1 (list_forks-read tray.k (filled_of tray) g.0))

  -- where the list is written, the first places hold it, and its stops are below n
  pub run-list : (count : ℕ) (list list' : List ℕ) → count ≡ count_of tray → list' ≡ over w list → take count list' ≡ w
  run-list count list list' n e = ap (take count) e ∙ over-front count w list (sym (n ∙ count-is tray))

  pub run-below : (l : List ℕ) → l ≡ w → (p : ℕ) → p < length l → in_place l p < tray.n
  run-below l e p b = rw e (omega (arith, wanted-below tray.k (filled_of tray) (times_of tray) p (rw e at b), tray.stops))

  -- what a run leaves
  pub run-written : (list bits work list' bits' work' l : List ℕ) (c count : ℕ) → count ≡ count_of tray → c ≡ total (times_of tray) w → list' ≡ over w list → l ≡ w
      → bits' ≡ over (bytes_of ((tray.n + 7) / 8) (moves_forks tray.k (stops_to (in_place l) (length l)))) bits → work' ≡ replicate (length work) 0
      → ListIsWritten tray list bits work list' bits' work' (record { total = c; length = count })
  run-written list bits work list' bits' work' l c count e t f g b z =
      let F : moves_forks tray.k (stops_to (in_place l) (length l)) ≡ list_forks tray.k (filled_of tray) w = rw g forks-read in
      let d : (tray.n + 7) / 8 ≡ byte_count (2 ^ tray.k) = ap byte_count tray.stops in
      record { answered = t; counted = e ∙ count-is tray; wrote = f; marked = b ∙ ap₂ (λ x y. over (bytes_of x y) bits) d F; cleared = z }

-- ---- the call

-- the filled stops of an accepted call are below n
pub made-inside : (F n m : ℕ) (bytes : List ℕ) → F ≡ set_of (filled_in bytes) m → m ≡ n → F < 2 ^ n
made-inside F n m bytes e f = rw (e, ← f) (set-lt (filled_in bytes) m)

module _ (k : ℕ) (table empties : List ℕ) where
  -- the filled stops, the times, and the wanted list
  abbrev s : ℕ → Bool
  s = filled_in (bytes_in k empties)

  abbrev t : ℕ → ℕ → ℕ
  t = entry (2 ^ k) table

  abbrev l : List ℕ
  l = wanted_list k s t

  -- its forks
  abbrev G : ℕ
  G = list_forks k s l

  wanted-forks : ForksOfList k s l G
  wanted-forks = let g = wanted_list-given k s t in subst (λ o. ForksOfList k s o (list_forks k s o)) g.1 (list_forks-meant k s g.0)

  -- WHAT AN ACCEPTING CALL LEAVES: the shortest list, and its forks
  accepted-leaves : (list bits list' bits' : List ℕ) (c count : ℕ) → c ≡ total t l → count ≡ length l → list' ≡ over l list → bits' ≡ over (bit_string k G) bits
      → Accepted k table empties list' bits' c count
  accepted-leaves list bits list' bits' c count e n x y =
      let front : take count list' ≡ l = ap (take count) x ∙ over-front count l list (sym n) in
      let long : length (bit_string k G) ≡ byte_count (2 ^ k) = length-bytes_of (byte_count (2 ^ k)) G in
      let string : take (byte_count (2 ^ k)) bits' ≡ bit_string k G = ap (take (byte_count (2 ^ k))) y ∙ over-front (byte_count (2 ^ k)) (bit_string k G) bits long in
      let set : set_of_bits (take (byte_count (2 ^ k)) bits') ≡ G = ap set_of_bits string ∙ set-of-string k G (only-forks k G wanted-forks.meant.forks).1 in
      record { shortest = rw (front, e) (wanted_list-shortest k s t); forks = rw (front, set) wanted-forks }

-- an accepted call keeps its promise, by the tray that it makes
pub plans-done : (tray : Tray) (empties list bits work list' bits' part : List ℕ) (r : ListPlanned) (m : ℕ)
    → gives tt ≡ list_room tray.k (length tray.table.now) empties (length list) (length bits) (length work)
    → tray.filled ≡ set_of (filled_in (take tray.n empties)) m → m ≡ tray.n → ListIsWritten tray list bits (take (tray.n * tray.n) work) list' bits' part r
    → ListIsPlanned tray.k tray.table.now empties (plan_list tray.k tray.table.now empties (length list) (length bits) (length work)) list bits work list' bits' (part ++ drop (tray.n * tray.n) work) (Ok r)
plans-done tray empties list bits work list' bits' part r m e f g w =
    let k : ℕ = tray.k in
    let table : List ℕ = tray.table.now in
    let fit : Fit k (length table) empties (length list) (length bits) (length work) = room-fits k (length table) empties (length list) (length bits) (length work) e in
    let room : list_room k (length table) empties (length list) (length bits) (length work) ≡ gives tt = sym e in
    let F : tray.filled ≡ set_of (filled_in (take (2 ^ k) empties)) (2 ^ k) = f ∙ ap₂ (λ a b. set_of (filled_in (take a empties)) b) tray.stops (g ∙ tray.stops) in
    let S : filled_of tray ≡ filled_in (bytes_in k empties) = ap in_set F ∙ set-filled empties (2 ^ k) fit.bytes in
    let T : times_of tray ≡ entry (2 ^ k) table = ap (λ n. entry n table) tray.stops in
    let W : wanted_of tray ≡ wanted_list k (filled_in (bytes_in k empties)) (entry (2 ^ k) table) = ap₂ (wanted_list k) S T in
    let L : List ℕ = wanted_list k (filled_in (bytes_in k empties)) (entry (2 ^ k) table) in
    let answered : r.total ≡ total (entry (2 ^ k) table) L = w.answered ∙ ap₂ total T W in
    let counted : r.length ≡ length L = w.counted ∙ ap length W in
    let wrote : list' ≡ over L list = w.wrote ∙ ap (λ x. over x list) W in
    let marked : bits' ≡ over (bit_string k (list_forks k (filled_in (bytes_in k empties)) L)) bits = w.marked ∙ ap₂ (λ x y. over (bit_string k (list_forks k x y)) bits) S W in
    let N : tray.n * tray.n ≡ 2 ^ k * 2 ^ k = ap (λ n. n * n) tray.stops in
    let size : length (take (tray.n * tray.n) work) ≡ 2 ^ k * 2 ^ k = length-take-le (tray.n * tray.n) work (rw N fit.rows) ∙ N in
    let cleared : part ≡ replicate (2 ^ k * 2 ^ k) 0 = w.cleared ∙ ap (λ n. replicate n 0) size in
    record {
      said = rw room (ap₂ (λ c n. gives (record { total = c; length = n })) answered counted);
      wrote = rw room wrote;
      marked = rw room marked;
      cleared = rw room (ap₂ (λ x n. x ++ drop n work) cleared (N ∙ sym (length-replicate (2 ^ k * 2 ^ k) 0)));
      claim = λ p q.
          let d : r ≡ p = cc in
          accepted-leaves k table empties list bits list' bits' p.total p.length (sym (ap (λ x. x.total) d) ∙ answered) (sym (ap (λ x. x.length) d) ∙ counted) wrote marked;
    }
