-- Laws of stops in lent buffers: how many there are and which, that buffers made of stops give them back whatever follows, and the
-- other way round, and that a list is in range exactly if each of its stops is.
use mathlib.Core.Path.{◌≡◌, refl, sym, ap, ◌∙◌}
use mathlib.Core.Bool.{Bool, true, false, ◌&&◌, and-false}
use mathlib.Core.List.{List, [], ◌∷◌, ◌++◌}
use Prim.Native.Nat.{ℕ, zero, suc, ◌+◌, ◌*◌, ◌≤◌, ◌<◌, zero-le, suc-le-suc}
use native.Mathlib.Nat.{le_of_suc-le-suc, not-suc-le-zero}
use native.Mathlib.Numerals.{one-add}
use native.Mathlib.Omega.{arith}
use lib.Dec.{leb}
use lib.ListN.{length, get_or, take, drop, length-map, length-drop}
use lib.Seq.{get_or-drop}
use lib.IntN.{ℤ, pos}
use borrow.Author.Tests.{leb-true}
use Rattle.base.specs.Refusal.{out_of_range}
use Rattle.base.specs.Outcome.{gives, refuses, done, number, over}
use Rattle.base.proofs.Bools.{and_left, and_right}
use Rattle.stop.specs.declared.Stop.{Stop}
use Rattle.stop.specs.Stop.{in_range, zero_stop}
use Rattle.base.specs.Lists.{tabulate}
use Rattle.stop.specs.Lent.{LentStops, buffers, over_stops, point_at, stop_at, first_stops, coords_of, speeds_of, blends_of, dwells_of, all_in_range, stops_fit, judge_all, judge_lent, Judged}
use Rattle.base.proofs.Lists.{length-tabulate, get_or-tabulate, tabulate-cong, tabulate-get_or, map-tabulate}
use Rattle.stop.proofs.Limits.{good}

-- ---- how many, and which

pub length-first : (n : ℕ) (lent : LentStops) → length (first_stops n lent) ≡ n
length-first n lent = length-tabulate n (stop_at lent)

pub get_or-first : (n : ℕ) (lent : LentStops) (i : ℕ) (d : Stop) → i < n → get_or (first_stops n lent) i d ≡ stop_at lent i
get_or-first n lent i d h = get_or-tabulate n (stop_at lent) i d h

-- the buffers without the first stop
abbrev pub after_first : LentStops → LentStops
after_first lent =
    record { coords = drop 3 lent.coords; speeds = drop 1 lent.speeds; blends = drop 1 lent.blends; dwells = drop 1 lent.dwells }

pub stop_at-suc : (lent : LentStops) (i : ℕ) → stop_at lent (suc i) ≡ stop_at (after_first lent) i
unfolding stop_at point_at
stop_at-suc lent i =
    let coords = lent.coords in
    let next : (k m : ℕ) → k ≡ 3 + m → get_or coords k (pos 0) ≡ get_or (drop 3 coords) m (pos 0) = λ k m e. ap (λ (p : ℕ). get_or coords p (pos 0)) e ∙ sym (get_or-drop 3 coords m (pos 0)) in
    let one : (l : List ℕ) → get_or l (suc i) 0 ≡ get_or (drop 1 l) i 0 = λ l. ap (λ (p : ℕ). get_or l p 0) (sym (one-add i)) ∙ sym (get_or-drop 1 l i 0) in
    rw (
      next (3 * suc i) (3 * i) (omega arith),
      next (3 * suc i + 1) (3 * i + 1) (omega arith),
      next (3 * suc i + 2) (3 * i + 2) (omega arith),
      one lent.speeds,
      one lent.blends,
      one lent.dwells,
    )

-- ---- buffers made of stops

pub length-coords_of : (ss : List Stop) → length (coords_of ss) ≡ 3 * length ss
unfolding coords_of
length-coords_of [] = refl
length-coords_of (s ∷ ss) = let e : length (coords_of ss) ≡ 3 * length ss = length-coords_of ss in omega arith

pub length-speeds_of : (ss : List Stop) → length (speeds_of ss) ≡ length ss
unfolding speeds_of
length-speeds_of ss = length-map ss (λ (s : Stop). s.speed)

pub length-blends_of : (ss : List Stop) → length (blends_of ss) ≡ length ss
unfolding blends_of
length-blends_of ss = length-map ss (λ (s : Stop). s.blend)

pub length-dwells_of : (ss : List Stop) → length (dwells_of ss) ≡ length ss
unfolding dwells_of
length-dwells_of ss = length-map ss (λ (s : Stop). s.dwell)

-- a list of three is its three elements
pub three-is : (l : List ℤ) → length l ≡ 3 → get_or l 0 (pos 0) ∷ get_or l 1 (pos 0) ∷ get_or l 2 (pos 0) ∷ [] ≡ l
three-is [] e = absurd (omega arith)
three-is (x ∷ []) e = absurd (omega arith)
three-is (x ∷ y ∷ []) e = absurd (omega arith)
three-is (x ∷ y ∷ z ∷ []) e = refl
three-is (x ∷ y ∷ z ∷ w ∷ l) e = absurd (omega arith)

-- buffers that begin with these stops
abbrev pub begins : List Stop → LentStops → LentStops
begins ss rest =
    record { coords = coords_of ss ++ rest.coords; speeds = speeds_of ss ++ rest.speeds; blends = blends_of ss ++ rest.blends; dwells = dwells_of ss ++ rest.dwells }

first-stop : (s : Stop) (ss : List Stop) (rest : LentStops) → length s.at ≡ 3 → stop_at (begins (s ∷ ss) rest) 0 ≡ s
unfolding coords_of speeds_of blends_of dwells_of stop_at point_at
first-stop s ss rest e =
    ap (λ (l : List ℤ). record { at = l; speed = s.speed; blend = s.blend; dwell = s.dwell }) (three-is s.at e)

later-stop : (s : Stop) (ss : List Stop) (rest : LentStops) (i : ℕ) → stop_at (begins (s ∷ ss) rest) (suc i) ≡ stop_at (begins ss rest) i
unfolding coords_of speeds_of blends_of dwells_of
later-stop s ss rest i = stop_at-suc (begins (s ∷ ss) rest) i

-- they give those stops where these are in range
pub first-begins : (ss : List Stop) (rest : LentStops) → all_in_range ss ≡ true → first_stops (length ss) (begins ss rest) ≡ ss
unfolding all_in_range
first-begins [] rest g = refl
first-begins (s ∷ ss) rest g =
    rw (first-stop s ss rest (good s (and_left (in_range s) (all_in_range ss) g)).three)
    (ap (λ (l : List Stop). s ∷ l)
    (tabulate-cong (length ss) (λ i. stop_at (begins (s ∷ ss) rest) (suc i)) (stop_at (begins ss rest)) (λ i h. later-stop s ss rest i)
    ∙ first-begins ss rest (and_right (in_range s) (all_in_range ss) g)))

-- buffers that stops were written over
pub over-buffers : (ss : List Stop) (lent : LentStops) (coords : List ℤ) (speeds blends dwells : List ℕ) → coords ≡ over (coords_of ss) lent.coords → speeds ≡ over (speeds_of ss) lent.speeds → blends ≡ over (blends_of ss) lent.blends → dwells ≡ over (dwells_of ss) lent.dwells → buffers coords speeds blends dwells ≡ over_stops ss lent
over-buffers ss lent coords speeds blends dwells c s b d = rw (c, s, b, d)

-- they hold those stops
pub over_first : (ss : List Stop) (lent : LentStops) → all_in_range ss ≡ true → first_stops (length ss) (over_stops ss lent) ≡ ss
over_first ss lent g =
    first-begins ss (buffers (drop (length (coords_of ss)) lent.coords) (drop (length (speeds_of ss)) lent.speeds) (drop (length (blends_of ss)) lent.blends) (drop (length (dwells_of ss)) lent.dwells)) g

-- ---- buffers made of lent stops are the first places of those buffers

pub coords_of-first : (n : ℕ) (lent : LentStops) → 3 * n ≤ length lent.coords → coords_of (first_stops n lent) ≡ take (3 * n) lent.coords
unfolding coords_of stop_at point_at
coords_of-first zero lent h = refl
coords_of-first (suc n) lent h =
    let rest : tabulate n (λ i. stop_at lent (suc i)) ≡ first_stops n (after_first lent) = tabulate-cong n (λ i. stop_at lent (suc i)) (stop_at (after_first lent)) (λ i k. stop_at-suc lent i) in
    let more : 3 * suc n ≡ suc (suc (suc (3 * n))) = omega arith in
    rw (rest, coords_of-first n (after_first lent) (simp length-drop (omega arith)), more) (three-first lent.coords (3 * n) (omega arith))
  where
    three-first : (l : List ℤ) (m : ℕ) → 3 ≤ length l → get_or l 0 (pos 0) ∷ get_or l 1 (pos 0) ∷ get_or l 2 (pos 0) ∷ take m (drop 3 l) ≡ take (suc (suc (suc m))) l
    three-first [] m h = absurd (omega arith)
    three-first (x ∷ []) m h = absurd (omega arith)
    three-first (x ∷ y ∷ []) m h = absurd (omega arith)
    three-first (x ∷ y ∷ z ∷ l) m h = refl

pub speeds_of-first : (n : ℕ) (lent : LentStops) → n ≤ length lent.speeds → speeds_of (first_stops n lent) ≡ take n lent.speeds
unfolding speeds_of stop_at
speeds_of-first n lent h = map-tabulate (λ (s : Stop). s.speed) n (stop_at lent) ∙ tabulate-get_or n lent.speeds 0 h

pub blends_of-first : (n : ℕ) (lent : LentStops) → n ≤ length lent.blends → blends_of (first_stops n lent) ≡ take n lent.blends
unfolding blends_of stop_at
blends_of-first n lent h = map-tabulate (λ (s : Stop). s.blend) n (stop_at lent) ∙ tabulate-get_or n lent.blends 0 h

pub dwells_of-first : (n : ℕ) (lent : LentStops) → n ≤ length lent.dwells → dwells_of (first_stops n lent) ≡ take n lent.dwells
unfolding dwells_of stop_at
dwells_of-first n lent h = map-tabulate (λ (s : Stop). s.dwell) n (stop_at lent) ∙ tabulate-get_or n lent.dwells 0 h

-- ---- a list is in range exactly if each of its stops is

pub all-good : (n : ℕ) (f : ℕ → Stop) → ((i : ℕ) → i < n → in_range (f i) ≡ true) → all_in_range (tabulate n f) ≡ true
unfolding all_in_range
all-good zero f g = refl
all-good (suc n) f g =
    rw (g 0 (suc-le-suc zero-le)) (all-good n (λ i. f (suc i)) (λ i h. g (suc i) (suc-le-suc h)))

pub one-bad : (n : ℕ) (f : ℕ → Stop) (i : ℕ) → i < n → in_range (f i) ≡ false → all_in_range (tabulate n f) ≡ false
unfolding all_in_range
one-bad zero f i h b = absurd (not-suc-le-zero h)
one-bad (suc n) f zero h b = rw b
one-bad (suc n) f (suc i) h b = rw (one-bad n (λ j. f (suc j)) i (le_of_suc-le-suc h) b, and-false)

-- the judgement of a list: nothing where each stop is in range, 6 where one is not
pub judge-good : (n : ℕ) (f : ℕ → Stop) → ((i : ℕ) → i < n → in_range (f i) ≡ true) → gives tt ≡ done (judge_all (tabulate n f))
unfolding judge_all
judge-good n f g = rw (all-good n f g)

pub judge-bad : (n : ℕ) (f : ℕ → Stop) (i : ℕ) → i < n → in_range (f i) ≡ false → refuses out_of_range ≡ done (judge_all (tabulate n f))
unfolding judge_all
judge-bad n f i h b = rw (one-bad n f i h b)

pub each-good : (ss : List Stop) (i : ℕ) (d : Stop) → all_in_range ss ≡ true → i < length ss → in_range (get_or ss i d) ≡ true
unfolding all_in_range
each-good [] i d g h = absurd (not-suc-le-zero h)
each-good (s ∷ ss) zero d g h = and_left (in_range s) (all_in_range ss) g
each-good (s ∷ ss) (suc i) d g h = each-good ss i d (and_right (in_range s) (all_in_range ss) g) (le_of_suc-le-suc h)

-- each of n lent stops is in range where all are
pub first_good : (n : ℕ) (lent : LentStops) (i : ℕ) → all_in_range (first_stops n lent) ≡ true → i < n → in_range (stop_at lent i) ≡ true
first_good n lent i g h =
    ap in_range (sym (get_or-first n lent i zero_stop h))
    ∙ each-good (first_stops n lent) i zero_stop g (rw (length-first n lent) h)

-- ---- what judging lent stops tells

-- the places that the buffers have
pub places : (n : ℕ) (lent : LentStops) → stops_fit n lent ≡ true → (3 * n ≤ length lent.coords) × (n ≤ length lent.speeds) × (n ≤ length lent.blends) × (n ≤ length lent.dwells)
unfolding stops_fit
places n lent e =
    let points = leb (3 * n) (length lent.coords) in
    let speeds = leb n (length lent.speeds) in
    let blends = leb n (length lent.blends) in
    let dwells = leb n (length lent.dwells) in
    let three : (points && speeds && blends) ≡ true = and_left (points && speeds && blends) dwells e in
    let two : (points && speeds) ≡ true = and_left (points && speeds) blends three in (
      leb-true _ _ (and_left points speeds two),
      leb-true _ _ (and_right points speeds two),
      leb-true _ _ (and_right (points && speeds) blends three),
      leb-true _ _ (and_right (points && speeds && blends) dwells e),
    )

-- both tests passed, whichever comes first
both-passed : (n : ℕ) (lent : LentStops) → number (judge_lent n lent) ≡ 0 → (stops_fit n lent ≡ true) × (all_in_range (first_stops n lent) ≡ true)
unfolding judge_lent judge_all
both-passed n lent e = by-tests (stops_fit n lent) (all_in_range (first_stops n lent)) refl refl
  where
    by-tests : (fits good : Bool) → stops_fit n lent ≡ fits → all_in_range (first_stops n lent) ≡ good → (stops_fit n lent ≡ true) × (all_in_range (first_stops n lent) ≡ true)
    by-tests true true p q = (p, q)
    by-tests true false p q = let h = simp (p, q) at e in absurd (omega (arith, h))
    by-tests false true p q = let h = simp (p, q) at e in absurd (omega (arith, h))
    by-tests false false p q = let h = simp (p, q) at e in absurd (omega (arith, h))

pub judged-lent : (n : ℕ) (lent : LentStops) → number (judge_lent n lent) ≡ 0 → Judged n lent
judged-lent n lent e =
    let both = both-passed n lent e in
    let room = places n lent both.0 in
    record {
      coordinate_places = room.0;
      speed_places = room.1;
      blend_places = room.2;
      dwell_places = room.3;
      in_range = both.1;
    }

-- what it gives
pub judged-gives : (n : ℕ) (lent : LentStops) → number (judge_lent n lent) ≡ 0 → judge_lent n lent ≡ gives (first_stops n lent)
unfolding judge_lent judge_all
judged-gives n lent e = let both = both-passed n lent e in simp (both.0, both.1)
