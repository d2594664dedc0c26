-- The time between two stops of path bytes.
use Rattle.std.specs.Prelude.{cond, List, ℕ, eqb}
use Rattle.base.specs.Outcome.{value}
use Rattle.stop.specs.declared.Stop.{Stop}
use Rattle.path.specs.Path.{stop_in}
use Rattle.times.specs.Time.{move_time}

-- from stop number i, which is a, to stop number j, which is b; of stops that were not judged, 0 where one of the two is out of range
unfoldable pub time_of : (i : ℕ) (a : Stop) (j : ℕ) (b : Stop) → ℕ
time_of i a j b = cond (eqb i j) 0 (value 0 (move_time a b))

-- from stop number `from` to stop number `to` of path bytes; of bytes that were not judged, 0 where one of the two is not there or out of range
abbrev pub time_in : (version : ℕ) (bytes : List ℕ) (from to : ℕ) → ℕ
time_in version bytes from to = time_of from (stop_in version from bytes) to (stop_in version to bytes)
