-- 'A member fits slower grippers': the same stops, at each of which the gripper rests longer by the same amount.
use Rattle.std.specs.Prelude.{List, [], ◌∷◌, ℕ, ◌+◌, ◌≤◌, ◌<◌, length, get_or}
use Rattle.stop.specs.declared.Stop.{Stop}
use Rattle.stop.specs.Stop.{zero_stop, longest_dwell}

-- a stop whose dwell is larger by an amount
abbrev pub resting : ℕ → Stop → Stop
resting a s = record { at = s.at; speed = s.speed; blend = s.blend; dwell = s.dwell + a }

-- all of them
unfoldable pub slower_stops : ℕ → List Stop → List Stop
slower_stops a [] = []
slower_stops a (s ∷ ss) = resting a s ∷ slower_stops a ss

-- every dwell stays in range: with the amount it is at most 5,000
abbrev pub CanRest : ℕ → List Stop → Type 0
CanRest a ss = (i : ℕ) → i < length ss → (get_or ss i zero_stop).dwell + a ≤ longest_dwell
