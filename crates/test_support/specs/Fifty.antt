-- The example with the total 50: four stops on a line.
use Rattle.std.specs.Prelude.{ℕ, ◌+◌, ◌-◌, min, get_or}
use mathlib.Core.List.{[], ◌∷◌}

-- the x of a stop; a stop past the last counts as the last
abbrev pub fifty_x : (stop : ℕ) → ℕ
fifty_x stop = get_or (0 ∷ 30 ∷ 10 ∷ 20 ∷ []) (min stop 3) 0

-- the time from one stop to another, in either direction
abbrev pub fifty_time : (a b : ℕ) → ℕ
fifty_time a b = (fifty_x a - fifty_x b) + (fifty_x b - fifty_x a)
