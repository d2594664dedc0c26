-- Four neighbouring rows of the table that are written together: their columns, and their places on the diagonal.
use Rattle.std.specs.Prelude.{◌≡◌, true, List, ℕ, zero, suc, ◌+◌, ◌*◌, ◌<◌, length, get_or, set}
use Rattle.stop.specs.declared.Stop.{Stop}
use Rattle.stop.specs.Stop.{in_range, zero_stop}
use Rattle.times.specs.Time.{time}
use Rattle.times.specs.Rows.{written}

-- stop r of neighbouring ones
abbrev pub stop_of : List Stop → ℕ → Stop
stop_of stops r = get_or stops r zero_stop

-- four stops are in range
pub record FourInRange (four : List Stop) : Type 0 where
  pub count : length four ≡ 4
  pub good : (r : ℕ) → r < 4 → in_range (stop_of four r) ≡ true

-- the times of the moves from four stops to another
abbrev pub times_from : List Stop → Stop → ℕ → ℕ
times_from four stop r = time (stop_of four r) stop

-- the list t with the values v 0 to v (r − 1) at the places p 0 to p (r − 1)
unfoldable pub set_each : List ℕ → (p v : ℕ → ℕ) → ℕ → List ℕ
set_each t p v zero = t
set_each t p v (suc r) = set (set_each t p v r) (p r) (v r)

-- in rows of n, the first of which is that of stop `from` and begins at `start`: the places of column `to`, and those on the diagonal
abbrev pub in_column : (start n to : ℕ) → ℕ → ℕ
in_column start n to r = start + r * n + to

abbrev pub on_diagonal : (start n from : ℕ) → ℕ → ℕ
on_diagonal start n from r = start + r * n + (from + r)

-- the list t with the first `to` elements of r rows of n, the first at `start`: f r is row r
unfoldable pub written_rows : List ℕ → (start n : ℕ) → (ℕ → ℕ → ℕ) → (to r : ℕ) → List ℕ
written_rows t start n f to zero = t
written_rows t start n f to (suc r) = written (written_rows t start n f to r) (start + r * n) (f r) to
