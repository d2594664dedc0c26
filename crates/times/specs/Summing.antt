-- The moves of an order by the stops of path bytes.
use Rattle.std.specs.Prelude.{◌≡◌, true, false, List, ℕ, ◌*◌, ◌^◌, ◌≤◌, ◌<◌, get_or, take}
use Rattle.base.specs.Outcome.{Outcome, giving}
use Rattle.stop.specs.declared.Stop.{Stop}
use Rattle.stop.specs.Stop.{in_range}
use Rattle.path.specs.Path.{body_after_head, stop_in}
use Rattle.tree.specs.Total.{moves, total}
use Rattle.times.specs.InPath.{time_in}

-- the sum of an order's moves, for a caller that has read the path's head: the version, k and the stops are judged; of the order the first 2^k
-- numbers count, and a number that is no stop's takes no time
unfoldable pub sum_in : (bytes : List ℕ) (version k : ℕ) (order : List ℕ) → Outcome ℕ
sum_in bytes version k order = giving (λ stops. total (time_in version bytes) (take (2 ^ k) order)) (body_after_head bytes version k)

-- ---- what the private functions ask and promise

-- stop number i of n judged ones, which are in range; no other number has such a stop
pub record StopOf (n i : ℕ) (s : Stop) : Type 0 where
  pub good : i < n → in_range s ≡ true
  pub none : n ≤ i → in_range s ≡ false

-- the moves up to place p of an order were summed, and the stop there is at hand
pub record Summed (version : ℕ) (bytes : List ℕ) (order : List ℕ) (p so_far here : ℕ) (from : Stop) : Type 0 where
  pub small : so_far ≤ p * 2 ^ 32
  pub sum : so_far ≡ moves (time_in version bytes) order p
  pub number : here ≡ get_or order p 0
  pub stop : from ≡ stop_in version here bytes
