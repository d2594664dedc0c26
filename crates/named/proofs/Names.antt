-- Laws of names, of lengths and of what is kept under a name.
use mathlib.Core.Path.{◌≡◌, refl, sym, ap, ap₂, ◌∙◌}
use mathlib.Core.Bool.{Bool, true, false, ◌&&◌}
use mathlib.Core.List.{List}
use Prim.Native.Nat.{ℕ, ◌+◌, ◌*◌, ◌-◌, ◌/◌, ◌^◌, ◌≤◌, ◌<◌, min}
use native.Mathlib.Nat.{min-le_left, min-le_right, le-min, mul-le-mul}
use native.Mathlib.Decide.{dec_lt}
use native.Mathlib.Omega.{arith}
use lib.Dec.{leb, eqb}
use lib.ListN.{length, get_or, take, drop, length-drop}
use lib.Pow.{pow_pos}
use lib.Seq.{paste, length-take-le, take_all, take-take}
use borrow.Author.Tests.{le-leb, lt-leb, leb-true, lt-ltb, le-ltb, eq-eqb, eqb-true}
use Rattle.base.specs.Refusal.{wrong_size, no_such_name, nothing_kept}
use Rattle.base.specs.Outcome.{Outcome, gives, refuses, and_then, done, number}
use Rattle.base.specs.Size.{max_k, stop_count}
use Rattle.base.proofs.Bools.{both}
use Rattle.base.proofs.Size.{stop_count-pow, pow-le-1024}
use Rattle.base.proofs.Numbered.{Numbered, need-numbered}
use Rattle.base.proofs.Outcome.{passed, number-first}
use Rattle.orders.specs.Lent.{order_in}
use Rattle.screen.specs.Records.{Records, records_of, lent_records}
use Rattle.screen.specs.Screen.{screen_room, places_room}
use Rattle.screen.proofs.Records.{GoodRecords, records-judged}
use Rattle.screen.proofs.Screen.{places-few, places-good, room-places, room-long, room-good, room-numbered as screen-numbered}
use Rattle.named.specs.Names.{names, is_name, used, is_used, start_of, under, named_room, places_of, named, lent_under}
use Rattle.named.proofs.Paste.{blocks-apart, place-long}

-- ---- lengths

-- all that is lent is long enough for n stops
pub record Fits (n marks stops kept order sums : ℕ) : Type 0 where
  pub long_marks : names ≤ marks
  pub long_stops : names * n ≤ stops
  pub long_kept : names * n ≤ kept
  pub long_order : n ≤ order
  pub long_sums : n ≤ sums

module _ (marks stops kept order sums : ℕ) where
  -- the places as code counts them
  pub places-none : marks < names → places_of marks stops kept order sums ≡ 0
  unfolding places_of
  places-none h = rw (lt-ltb _ _ h)

  places-some : names ≤ marks → places_of marks stops kept order sums ≡ min (min order sums) (min stops kept / names)
  unfolding places_of
  places-some h = rw (le-ltb _ _ h)

  -- the lengths' test is that of the places
  pub room-agrees : (k : ℕ) → named_room marks stops kept order sums k ≡ places_room (places_of marks stops kept order sums) k
  unfolding named_room
  room-agrees k = go (dec_lt marks names) (dec_lt stops (names * 2 ^ k)) (dec_lt kept (names * 2 ^ k))
    where
      few : names ≤ marks → min stops kept / names < 2 ^ k → places_room (places_of marks stops kept order sums) k ≡ refuses wrong_size
      few h l = places-few _ k (rw (places-some h) (omega (arith, min-le_right (min order sums) (min stops kept / names))))

      enough : names ≤ marks → 2 ^ k ≤ min stops kept / names → screen_room order sums k ≡ places_room (places_of marks stops kept order sums) k
      enough h l = rw (places-some h) (room-places order sums k ∙ at (dec_lt (min order sums) (2 ^ k)))
        where
          at : Dec (min order sums < 2 ^ k) → places_room (min order sums) k ≡ places_room (min (min order sums) (min stops kept / names)) k
          at (yes f) = places-few _ k f ∙ sym (places-few _ k (omega (arith, min-le_left (min order sums) (min stops kept / names))))
          at (no f) = let g : 2 ^ k ≤ min order sums = omega arith in places-good _ k g ∙ sym (places-good _ k (le-min g l))

      go : Dec (marks < names) → Dec (stops < names * 2 ^ k) → Dec (kept < names * 2 ^ k)
          → named_room marks stops kept order sums k ≡ places_room (places_of marks stops kept order sums) k
      go (yes a) _ _ = rw (lt-leb _ _ a) (sym (places-few _ k (rw (places-none a) (pow_pos k))))
      go (no a) (yes b) _ =
          let h : names ≤ marks = omega arith in
          rw (le-leb _ _ h, lt-leb _ _ b) (sym (few h (omega (arith, min-le_left stops kept))))
      go (no a) (no b) (yes c) =
          let h : names ≤ marks = omega arith in
          let i : names * 2 ^ k ≤ stops = omega arith in
          rw (le-leb _ _ h, le-leb _ _ i, lt-leb _ _ c) (sym (few h (omega (arith, min-le_right stops kept))))
      go (no a) (no b) (no c) =
          let h : names ≤ marks = omega arith in
          let i : names * 2 ^ k ≤ stops = omega arith in
          let j : names * 2 ^ k ≤ kept = omega arith in
          let m : names * 2 ^ k ≤ min stops kept = le-min i j in
          rw (le-leb _ _ h, le-leb _ _ i, le-leb _ _ j) (enough h (omega (arith, m)))

  -- lengths that pass
  pub room_fits : (k : ℕ) → number (named_room marks stops kept order sums k) ≡ 0 → Fits (2 ^ k) marks stops kept order sums
  unfolding named_room
  room_fits k e =
      let a = passed (leb names marks) wrong_size _ (omega arith) e in
      let b = passed (leb (names * 2 ^ k) stops) wrong_size _ (omega arith) a.goes_on in
      let c = passed (leb (names * 2 ^ k) kept) wrong_size _ (omega arith) b.goes_on in
      let l = room-long order sums k c.goes_on in
      record { long_marks = leb-true _ _ a.holds; long_stops = leb-true _ _ b.holds; long_kept = leb-true _ _ c.holds; long_order = l.0; long_sums = l.1 }

  -- long enough buffers pass
  pub fits-room : (k : ℕ) → Fits (2 ^ k) marks stops kept order sums → named_room marks stops kept order sums k ≡ gives tt
  unfolding named_room
  fits-room k f = rw (le-leb _ _ f.long_marks, le-leb _ _ f.long_stops, le-leb _ _ f.long_kept) (room-good order sums k f.long_order f.long_sums)

  -- a refusal of theirs has a number of the table
  pub room-numbered : (k : ℕ) → Numbered (named_room marks stops kept order sums k)
  unfolding named_room
  room-numbered k =
      need-numbered (leb names marks) wrong_size _ (omega arith) (omega arith)
      (need-numbered (leb (names * 2 ^ k) stops) wrong_size _ (omega arith) (omega arith)
      (need-numbered (leb (names * 2 ^ k) kept) wrong_size _ (omega arith) (omega arith) (screen-numbered order sums k)))

-- ---- names

pub name_out : (name : ℕ) → (1 ≤ name → name ≤ names → ⊥) → is_name name ≡ false
name_out name f = go (leb 1 name) (leb name names) refl refl
  where
    go : (a b : Bool) → leb 1 name ≡ a → leb name names ≡ b → (leb 1 name && leb name names) ≡ false
    go false b e g = rw e
    go true false e g = rw (e, g)
    go true true e g = absurd (f (leb-true _ _ e) (leb-true _ _ g))

pub name_in : (name : ℕ) → 1 ≤ name → name ≤ names → is_name name ≡ true
name_in name a b = rw (le-leb 1 name a, le-leb name names b)

pub in-name : (name : ℕ) → is_name name ≡ true → (1 ≤ name) × (name ≤ names)
in-name name e = let b = both (leb 1 name) (leb name names) e in (leb-true _ _ b.0, leb-true _ _ b.1)

-- the place of a name lies within what all names have
pub start_fits : (k name size : ℕ) → 1 ≤ name → name ≤ names → names * 2 ^ k ≤ size → start_of k name + 2 ^ k ≤ size
start_fits k name size a b h = omega (arith, blocks-apart (name - 1) names (2 ^ k) (omega arith), h)

-- where code finds the place of a name: n is the number of stops
pub record Place (k name n : ℕ) : Type 0 where
  pub count : n ≡ 2 ^ k
  pub start : (name - 1) * n ≡ start_of k name
  pub small : (name - 1) * n ≤ 7168
  pub few : n ≤ 1024
  pub fits : (size : ℕ) → names * 2 ^ k ≤ size → (name - 1) * n + n ≤ size

pub place_of : (k name n : ℕ) → k ≤ max_k → 1 ≤ name → name ≤ names → n ≡ stop_count k → Place k name n
place_of k name n h a b e =
    let c : n ≡ 2 ^ k = e ∙ stop_count-pow k h in
    let s : (name - 1) * n ≡ start_of k name = ap (λ x. (name - 1) * x) c in
    let l : (name - 1) * n ≤ 7 * 1024 = mul-le-mul {n₁ = name - 1} {m₁ = n} {n₂ = 7} {m₂ = 1024} (omega arith) (omega (arith, c, pow-le-1024 k h)) in
    record { count = c; start = s; small = omega (arith, l); few = omega (arith, c, pow-le-1024 k h); fits = λ size f. omega (arith, s, c, start_fits k name size a b f) }

-- the same by the code's own numbers
pub start-small : (k name : ℕ) → k ≤ max_k → 1 ≤ name → name ≤ names → (name - 1) * stop_count k ≤ 7168
start-small k name h a b = (place_of k name (stop_count k) h a b refl).small

pub start-fits : (k name : ℕ) → k ≤ max_k → 1 ≤ name → name ≤ names → (name - 1) * stop_count k + stop_count k ≤ names * 2 ^ k
start-fits k name h a b = (place_of k name (stop_count k) h a b refl).fits (names * 2 ^ k) (omega arith)

pub ruleset starts = (start-small, start-fits, place-long)

-- what is kept under a name is a copy
pub under-is : (name n : ℕ) (s all : List ℕ) → n ≤ length s → under name (take n s) all ≡ paste all ((name - 1) * n) s n
unfolding under
under-is name n s all l = let e : length (take n s) ≡ n = length-take-le n s l in rw (e, take-take n n s (omega arith))

-- ---- the screen's records, and then the name

module _ (t : ℕ → ℕ → ℕ) (k name : ℕ) (order sums : List ℕ) where
  abbrev pub keeping : Outcome Records
  keeping = and_then (lent_records t k order sums) (named name)

  pub keep-given : GoodRecords t k order sums → 1 ≤ name → name ≤ names → keeping ≡ gives (records_of t k (order_in k order))
  unfolding named
  keep-given g a b = rw (g.accepted, name_in name a b)

  pub keep-judged : number keeping ≡ 0 → GoodRecords t k order sums × (1 ≤ name) × (name ≤ names)
  unfolding named
  keep-judged e =
      let g = records-judged t k order sums (number-first (lent_records t k order sums) (named name) e) in
      let s = passed (is_name name) no_such_name _ (omega arith) (rw g.accepted at e) in
      let f = in-name name s.holds in
      (g, f.0, f.1)

  -- ---- and then what was kept

  module _ (marks stops kept : List ℕ) where
    abbrev pub coming : Outcome Records
    coming = and_then keeping (λ _. lent_under t k name marks stops kept)

    pub back-used : GoodRecords t k order sums → 1 ≤ name → name ≤ names → get_or marks (name - 1) 0 ≡ used
        → coming ≡ lent_records t k (drop (start_of k name) stops) (drop (start_of k name) kept)
    unfolding lent_under is_used
    back-used g a b e = rw (keep-given g a b, eq-eqb (get_or marks (name - 1) 0) used e)

    -- as code has what was kept: the rest of each buffer
    pub back-rest : (n : ℕ) (r : Outcome Unit) → Place k name n → GoodRecords t k order sums → 1 ≤ name → name ≤ names → get_or marks (name - 1) 0 ≡ used
        → names * 2 ^ k ≤ length stops → names * 2 ^ k ≤ length kept
        → r ≡ done (lent_records t k (take (length stops - (name - 1) * n) (drop ((name - 1) * n) stops)) (take (length kept - (name - 1) * n) (drop ((name - 1) * n) kept)))
        → r ≡ done coming
    back-rest n r p g a b e f h is =
        is
        ∙ ap₂ (λ (x y : List ℕ). done (lent_records t k x y)) (rest stops) (rest kept)
        ∙ ap (λ (i : ℕ). done (lent_records t k (drop i stops) (drop i kept))) p.start
        ∙ sym (ap done (back-used g a b e))
      where
        rest : (l : List ℕ) → take (length l - (name - 1) * n) (drop ((name - 1) * n) l) ≡ drop ((name - 1) * n) l
        rest l = take_all (length l - (name - 1) * n) (drop ((name - 1) * n) l) (omega (arith, length-drop ((name - 1) * n) l))

    -- what passed all tests
    pub record Back : Type 0 where
      pub shown : GoodRecords t k order sums
      pub above : 1 ≤ name
      pub below : name ≤ names
      pub marked : get_or marks (name - 1) 0 ≡ used
      pub good : GoodRecords t k (drop (start_of k name) stops) (drop (start_of k name) kept)

    pub back-judged : number coming ≡ 0 → Back
    unfolding lent_under is_used
    back-judged e =
        let w = keep-judged (number-first keeping (λ _. lent_under t k name marks stops kept) e) in
        let s = passed (eqb (get_or marks (name - 1) 0) used) nothing_kept _ (omega arith) (rw (keep-given w.0 w.1 w.2) at e) in
        record { shown = w.0; above = w.1; below = w.2; marked = eqb-true _ _ s.holds; good = records-judged t k _ _ s.goes_on }
