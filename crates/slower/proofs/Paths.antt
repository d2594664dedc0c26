-- M-106, from path bytes: two accepted paths with the same stops, of which the second has every dwell larger by the same amount. Nothing is asked of the
-- amount: both paths were read, so all dwells are in range. And where no dwell passes 5,000 with the amount, the second path exists.
use mathlib.Core.Path.{◌≡◌, refl, sym, ap, subst, ◌∙◌}
use mathlib.Core.Bool.{true, false, ◌&&◌}
use mathlib.Core.List.{List, [], ◌∷◌}
use Prim.Native.Nat.{ℕ, zero, suc, ◌+◌, ◌*◌, ◌^◌, ◌≤◌, ◌<◌}
use native.Mathlib.Omega.{arith}
use lib.Dec.{leb}
use lib.ListN.{length, get_or, take}
use borrow.Author.Tests.{ne_eqb, le-leb}
use Rattle.base.specs.Outcome.{Outcome, gives}
use Rattle.base.proofs.Bools.{and_left, and_right}
use Rattle.records.specs.Record.{stop_fields, later_fields}
use Rattle.stop.specs.declared.Stop.{Stop}
use Rattle.stop.specs.Stop.{good_point, in_range, zero_stop, slowest, fastest, largest_blend, longest_dwell}
use Rattle.stop.specs.Lent.{all_in_range}
use Rattle.path.specs.Path.{Path, path, read_path, any_size, newest_version, known_version, stop_values}
use Rattle.path.specs.Written.{path_bytes, all_zero, loses_field, loses_any}
use Rattle.path.proofs.RoundTrip.{read-written}
use Rattle.times.specs.Time.{travel, distance, time, time_between}
use Rattle.times.specs.Table.{entry_of}
use Rattle.tree.specs.Total.{total}
use Rattle.tree.specs.Open.{Shortest, wanted}
use Rattle.tree.proofs.Open.{shortest-wanted}
use Rattle.costs.specs.Costs.{Slower}
use Rattle.costs.proofs.Slower.{open-slower}
use Rattle.path_plan.specs.Claim.{ShortestFor}
use Rattle.path_plan.proofs.Meaning.{path-good}
use Rattle.slower.specs.Accepted.{PlannedPath}
use Rattle.slower.specs.Growth.{order_moves, Grows}
use Rattle.slower.specs.Dwells.{resting, slower_stops, CanRest}

-- stop i of the slower path
slower-at : (a : ℕ) (ss : List Stop) (i : ℕ) → i < length ss → get_or (slower_stops a ss) i zero_stop ≡ resting a (get_or ss i zero_stop)
unfolding slower_stops
slower-at a [] i h = absurd (omega arith)
slower-at a (s ∷ ss) zero h = refl
slower-at a (s ∷ ss) (suc i) h = slower-at a ss i (omega arith)

-- the way to a stop takes the same time, and the rest there is longer
time-slower : (a : ℕ) (x y : Stop) → time (resting a x) (resting a y) ≡ time x y + a
unfolding time travel distance
time-slower a x y = omega arith

-- so every move that arrives at another stop takes the amount more
pub stops-slower : (k a : ℕ) (ss : List Stop) → length ss ≡ 2 ^ k → Slower k a (entry_of ss) (entry_of (slower_stops a ss))
unfolding entry_of time_between
stops-slower k a ss e i j b c d =
    rw (ne_eqb i j d, slower-at a ss i (omega (arith, e)), slower-at a ss j (omega (arith, e))) (time-slower a (get_or ss i zero_stop) (get_or ss j zero_stop))

-- what two readings of the same bytes mean
same-stops : (bytes : List ℕ) (highest k : ℕ) {v w : ℕ} {x y : List Stop} → read_path bytes highest any_size ≡ gives (path v k x)
    → read_path bytes highest any_size ≡ gives (path w k y) → x ≡ y
same-stops bytes highest k {v} {w} {x} {y} e f =
    let g : ◌≡◌ {A = Outcome Path} (gives (path v k x)) (gives (path w k y)) = sym e ∙ f in
    let r : path v k x ≡ path w k y = cc in
    ap (λ (z : Path). z.stops) r

-- the order and the total that demand 3 holds of are the wanted ones, by the travel times of the stops that the bytes mean
shortest-is : (bytes : List ℕ) (highest version k : ℕ) (ss : List Stop) → read_path bytes highest any_size ≡ gives (path version k ss) → (o : List ℕ) (c : ℕ)
    → ShortestFor bytes highest k o c → (o ≡ wanted k (entry_of ss)) × (c ≡ total (entry_of ss) (wanted k (entry_of ss)))
shortest-is bytes highest version k ss means o c p =
    shortest-wanted k (entry_of ss) o c (subst (λ x. Shortest k (entry_of x) o c) (same-stops bytes highest k p.means means) p.shortest)

-- ---- the calls

-- Two calls of `plan_path` that accept: the bytes of the second path, which may be of another version and read by another caller, mean the stops of the
-- first, each with a dwell larger by the amount.
module _ (bytes bytes₂ : List ℕ) (highest highest₂ version version₂ k a : ℕ) (ss : List Stop) (means : read_path bytes highest any_size ≡ gives (path version k ss))
    (means₂ : read_path bytes₂ highest₂ any_size ≡ gives (path version₂ k (slower_stops a ss))) (o o₂ : List ℕ) (c c₂ : ℕ) where
  -- 'the returned order is the same and its total grows by n−1 times the amount'
  pub path-slower : PlannedPath bytes highest k o c → PlannedPath bytes₂ highest₂ k o₂ c₂ → Grows k o o₂ c c₂ (order_moves k * a)
  path-slower p q =
      let first = shortest-is bytes highest version k ss means (take (2 ^ k) o) c (p.promise.claim (record { version = p.version; k = k; total = c }) refl) in
      let second = shortest-is bytes₂ highest₂ version₂ k (slower_stops a ss) means₂ (take (2 ^ k) o₂) c₂ (q.promise.claim (record { version = q.version; k = k; total = c₂ }) refl) in
      let s = open-slower a (entry_of ss) (entry_of (slower_stops a ss)) k (stops-slower k a ss (path-good bytes highest any_size version k ss means).count) in
      record { same = second.0 ∙ s.0 ∙ sym first.0; more = omega (arith, second.1, s.1, first.1) }

-- ---- such a path

-- a stop that rests longer is in range, if its dwell is
resting-range : (a : ℕ) (s : Stop) → in_range s ≡ true → s.dwell + a ≤ longest_dwell → in_range (resting a s) ≡ true
unfolding in_range good_point
resting-range a s g h =
    rw (
      and_left
          (good_point s && leb slowest s.speed && leb s.speed fastest && leb s.blend largest_blend)
          (leb s.dwell longest_dwell)
          g,
      le-leb (s.dwell + a) longest_dwell h,
    )

slower-range : (a : ℕ) (ss : List Stop) → all_in_range ss ≡ true → CanRest a ss → all_in_range (slower_stops a ss) ≡ true
unfolding slower_stops all_in_range
slower-range a [] g h = refl
slower-range a (s ∷ ss) g h =
    rw (resting-range a s (and_left (in_range s) (all_in_range ss) g) (h 0 (omega arith)), slower-range a ss (and_right (in_range s) (all_in_range ss) g) (λ i b. h (suc i) (omega arith)))

slower-length : (a : ℕ) (ss : List Stop) → length (slower_stops a ss) ≡ length ss
unfolding slower_stops
slower-length a [] = refl
slower-length a (s ∷ ss) = ap suc (slower-length a ss)

-- version 6 has every field
newest-keeps : (ss : List Stop) → loses_any newest_version ss ≡ false
unfolding loses_any loses_field all_zero stop_fields later_fields stop_values
newest-keeps [] = refl
newest-keeps (s ∷ ss) = newest-keeps ss

-- and is known
newest-known : known_version newest_version ≡ true
unfolding known_version
newest-known = refl

-- an accepted path whose dwells are at most 5,000 with the amount: the slower one, written in version 6, is a path too
pub slower-read : (bytes : List ℕ) (highest version k a : ℕ) (ss : List Stop) → read_path bytes highest any_size ≡ gives (path version k ss) → CanRest a ss
    → read_path (path_bytes newest_version k (slower_stops a ss)) newest_version any_size ≡ gives (path newest_version k (slower_stops a ss))
slower-read bytes highest version k a ss means rests =
    let g = path-good bytes highest any_size version k ss means in
    read-written newest_version k newest_version any_size (slower_stops a ss) newest-known newest-known (omega arith) g.small refl (slower-length a ss ∙ g.count)
    (slower-range a ss g.good rests) (newest-keeps (slower_stops a ss))
