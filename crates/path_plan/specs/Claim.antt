-- DEMAND 3, one claim over a whole run: what holds of the order and the total that are returned for path bytes.
use Rattle.std.specs.Prelude.{◌≡◌, List, ℕ}
use Rattle.base.specs.Outcome.{gives}
use Rattle.stop.specs.declared.Stop.{Stop}
use Rattle.path.specs.Path.{path, read_path, any_size}
use Rattle.times.specs.Table.{entry_of}
use Rattle.tree.specs.Open.{Shortest}

-- 'with the travel times of the stops that the bytes mean, k up to 10': the bytes are a path of 2^k stops, and by the travel times
-- between those stops the order is given by some set of forks, the total is the sum of its moves, no set of forks gives a smaller total,
-- and of equal totals the order has the smaller stop at the first difference read from the last place back
pub record ShortestFor (bytes : List ℕ) (highest k : ℕ) (order : List ℕ) (total : ℕ) : Type 0 where
  pub version : ℕ
  pub stops : List Stop
  pub means : read_path bytes highest any_size ≡ gives (path version k stops)
  pub shortest : Shortest k (entry_of stops) order total
