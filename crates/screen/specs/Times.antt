-- Times that come straight from a path's bytes.
use Rattle.std.specs.Prelude.{ℕ}
use Rattle.path.specs.declared.PathBytes.{PathBytes}
use Rattle.times.specs.InPath.{time_in}

-- the time from stop i to stop j
abbrev pub times_of : PathBytes → ℕ → ℕ → ℕ
times_of path = time_in path.version path.bytes.now
