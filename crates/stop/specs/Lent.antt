-- Stops in lent buffers of numbers: the coordinates x, y, z of stop 0, then those of stop 1 and so on in one, the speeds in another,
-- the blends in a third, the dwells (M-102) in a fourth ('k = 1, one speed place'). A definition takes the buffers as one record.
use Rattle.std.specs.Prelude.{◌≡◌, Bool, true, ◌&&◌, List, [], ◌∷◌, map, ℕ, ◌+◌, ◌*◌, ◌≤◌, leb, length, get_or, ℤ, pos}
use Rattle.base.specs.Refusal.{out_of_range, wrong_size}
use Rattle.base.specs.Outcome.{Outcome, gives, need, over}
use Rattle.base.specs.Buffer.{Unsigned, Signed, at_entry, at_exit}
use Rattle.base.specs.Lists.{tabulate}
use Rattle.stop.specs.declared.Stop.{Stop}
use Rattle.stop.specs.declared.Stops.{Stops}
use Rattle.stop.specs.Stop.{in_range, coordinate}

-- what the buffers hold
pub record LentStops : Type 0 where
  pub coords : List ℤ
  pub speeds : List ℕ
  pub blends : List ℕ
  pub dwells : List ℕ

abbrev pub buffers : List ℤ → List ℕ → List ℕ → List ℕ → LentStops
buffers coords speeds blends dwells = record { coords = coords; speeds = speeds; blends = blends; dwells = dwells }

-- what they hold, of buffers that are only read
abbrev pub lent : Stops → LentStops
lent s = buffers s.coords.now s.speeds.now s.blends.now s.dwells.now

-- and of buffers that the call may write: when it begins
abbrev pub stops_before : Signed → Unsigned → Unsigned → Unsigned → LentStops
stops_before coords speeds blends dwells = buffers (at_entry coords) (at_entry speeds) (at_entry blends) (at_entry dwells)

-- and when it returns
abbrev pub left_stops : Signed → Unsigned → Unsigned → Unsigned → LentStops
left_stops coords speeds blends dwells = buffers (at_exit coords) (at_exit speeds) (at_exit blends) (at_exit dwells)

-- the coordinates of stop i; a number beyond a buffer's end counts as 0
unfoldable pub point_at : List ℤ → ℕ → List ℤ
point_at coords i = get_or coords (3 * i) (pos 0) ∷ get_or coords (3 * i + 1) (pos 0) ∷ get_or coords (3 * i + 2) (pos 0) ∷ []

-- stop i of the buffers
unfoldable pub stop_at : LentStops → ℕ → Stop
stop_at lent i =
    record { at = point_at lent.coords i; speed = get_or lent.speeds i 0; blend = get_or lent.blends i 0; dwell = get_or lent.dwells i 0 }

-- the stops 0 to n − 1 of the buffers
abbrev pub first_stops : ℕ → LentStops → List Stop
first_stops n lent = tabulate n (stop_at lent)

-- the buffers that hold just these stops
unfoldable pub coords_of : List Stop → List ℤ
coords_of [] = []
coords_of (s ∷ ss) = coordinate s 0 ∷ coordinate s 1 ∷ coordinate s 2 ∷ coords_of ss

unfoldable pub speeds_of : List Stop → List ℕ
speeds_of ss = map (λ (s : Stop). s.speed) ss

unfoldable pub blends_of : List Stop → List ℕ
blends_of ss = map (λ (s : Stop). s.blend) ss

unfoldable pub dwells_of : List Stop → List ℕ
dwells_of ss = map (λ (s : Stop). s.dwell) ss

-- the buffers with these stops written over their fronts
abbrev pub over_stops : List Stop → LentStops → LentStops
over_stops ss lent =
    buffers (over (coords_of ss) lent.coords) (over (speeds_of ss) lent.speeds) (over (blends_of ss) lent.blends) (over (dwells_of ss) lent.dwells)

-- every stop of the list is in range
unfoldable pub all_in_range : List Stop → Bool
all_in_range [] = true
all_in_range (s ∷ ss) = in_range s && all_in_range ss

-- a list of stops that is judged: itself, or 6 where one is out of range
unfoldable pub judge_all : List Stop → Outcome (List Stop)
judge_all ss = need (all_in_range ss) out_of_range (gives ss)

-- the buffers have places for n stops
unfoldable pub stops_fit : ℕ → LentStops → Bool
stops_fit n lent =
    leb (3 * n) (length lent.coords) && leb n (length lent.speeds) && leb n (length lent.blends) && leb n (length lent.dwells)

-- the first n lent stops, judged: 8 where a buffer is too short, then 6 in stop order
unfoldable pub judge_lent : ℕ → LentStops → Outcome (List Stop)
judge_lent n lent = need (stops_fit n lent) wrong_size (judge_all (first_stops n lent))

-- n lent stops that passed
pub record Judged (n : ℕ) (lent : LentStops) : Type 0 where
  pub coordinate_places : 3 * n ≤ length lent.coords
  pub speed_places : n ≤ length lent.speeds
  pub blend_places : n ≤ length lent.blends
  pub dwell_places : n ≤ length lent.dwells
  pub in_range : all_in_range (first_stops n lent) ≡ true
