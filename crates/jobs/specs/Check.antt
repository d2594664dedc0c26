-- 'an order file checked against path bytes'
use Rattle.std.specs.Prelude.{List, ℕ}
use Rattle.base.specs.Outcome.{Outcome, and_then, done}
use Rattle.path.specs.Path.{read_path}
use Rattle.times.specs.Table.{entry_of}
use Rattle.order_file.specs.Reading.{judge_file}
use Rattle.jobs.specs.Limit.{small_enough}

-- 'Where a path is handed over too, its reading comes first'; then the file, by the path's k and the travel times of its stops
unfoldable pub check_file : (bytes : List ℕ) (highest : ℕ) (file : List ℕ) → Outcome Unit
check_file bytes highest file =
    and_then (read_path bytes highest small_enough) (λ p. done (judge_file p.k (entry_of p.stops) file))
