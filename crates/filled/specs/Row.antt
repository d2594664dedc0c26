-- What the program keeps of the table: one number for each cell, row by row in the lent numbers.
use Rattle.std.specs.Prelude.{◌≡◌, Bool, cond, List, ℕ, zero, suc, ◌+◌, ◌*◌, ◌^◌, ◌≤◌, ◌<◌, eqb, leb, length, get_or}
use Rattle.tree.specs.Block.{beside_of}
use Rattle.tree.specs.Fork.{bit}
use Rattle.tree.specs.Neighbour.{trail}
use Rattle.tree.specs.Total.{entry}
use Rattle.walks.specs.Best.{Found, none, at}
use Rattle.walks.specs.Rows.{loop}
use Rattle.filled.specs.declared.tray.Tray.{Tray}
use Rattle.filled.specs.Table.{table_at}

-- a number above every total, which stands for 'no list'
abbrev pub unreached : ℕ
unreached = 2 ^ 63

-- the total of a cell
unfoldable pub total_in : Found (List ℕ) → ℕ
total_in none = unreached
total_in (at c l) = c

-- stop i is in a set of stops: bit i of its number is 1
unfoldable pub in_set : ℕ → ℕ → Bool
in_set F i = eqb (bit F i) 1

-- the set of the stops below n that pass a test
unfoldable pub set_of : (ℕ → Bool) → ℕ → ℕ
set_of s zero = 0
set_of s (suc n) = set_of s n + cond (s n) (2 ^ n) 0

-- which stops of a tray are filled, and the times between its stops
abbrev pub filled_of : Tray → ℕ → Bool
filled_of tray = in_set tray.filled

abbrev pub times_of : Tray → ℕ → ℕ → ℕ
times_of tray = entry tray.n tray.table.now

-- the cell of stop i in place p
abbrev pub cell_of : Tray → ℕ → ℕ → Found (List ℕ)
cell_of tray = table_at tray.k (filled_of tray) (times_of tray)

-- of x first, x (first + 1), .. the first d: the least that is below `unreached`, with its number; of equals the smaller number
abbrev pub least_in : (ℕ → ℕ) → ℕ → ℕ → ℕ × ℕ
least_in x first d = loop unreached (leb first) x (λ j. j) (first + d)

-- the number that stands at j of a row
abbrev pub standing : List ℕ → ℕ → ℕ
standing row j = get_or row j 0

-- the total of coming to stop `to` from stop j, whose total stands in the row, and the move's time
abbrev pub through : Tray → List ℕ → ℕ → ℕ → ℕ
through tray row to j = standing row j + times_of tray j to

-- the cheapest way to stop `to` in place p from the group beside stop i, by the row of the place before
unfoldable pub from_group : Tray → (row : List ℕ) → (p i to : ℕ) → ℕ × ℕ
from_group tray row p i to = least_in (through tray row to) (beside_of i (trail p)) (2 ^ trail p)

-- a row: a number for each stop, none above `unreached`
pub record IsRow (tray : Tray) (row : List ℕ) : Type 0 where
  pub long : length row ≡ tray.n
  pub low : (i : ℕ) → i < tray.n → standing row i ≤ unreached

-- the row of place p, which is made
pub record RowIsMade (tray : Tray) (row : List ℕ) (p : ℕ) : Type 0 where
  pub long : length row ≡ tray.n
  pub made : (i : ℕ) → i < tray.n → standing row i ≡ total_in (cell_of tray p i)

-- work space of n rows, of which the first p are made
pub record RowsMade (tray : Tray) (work : List ℕ) (p : ℕ) : Type 0 where
  pub rows : length work ≡ tray.n * tray.n
  pub made : (q i : ℕ) → q < p → i < tray.n → get_or work (q * tray.n + i) 0 ≡ total_in (cell_of tray q i)

-- the first i cells of row p are made
pub record CellsMade (tray : Tray) (work : List ℕ) (p i : ℕ) : Type 0 where
  pub made : (j : ℕ) → j < i → get_or work (p * tray.n + j) 0 ≡ total_in (cell_of tray p j)
