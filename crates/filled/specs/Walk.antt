-- The walk back through the table, and what a run of the method leaves.
use Rattle.std.specs.Prelude.{◌≡◌, List, ◌∷◌, ◌++◌, ℕ, ◌+◌, ◌≤◌, ◌<◌, length, get_or, replicate}
use Rattle.std.specs.Int.Count.{ones}
use Rattle.base.specs.Buffer.{Unsigned, at_entry, at_exit}
use Rattle.base.specs.Outcome.{over}
use Rattle.tree.specs.Neighbour.{in_place}
use Rattle.tree.specs.Total.{total}
use Rattle.tree.specs.Wanted.{backward}
use Rattle.walks.specs.Best.{at}
use Rattle.orders.specs.Bits.{bit_string}
use Rattle.filled.specs.declared.ListPlanned.{ListPlanned}
use Rattle.filled.specs.declared.tray.Tray.{Tray}
use Rattle.filled.specs.Forks.{list_forks}
use Rattle.filled.specs.Lists.{wanted_list}
use Rattle.filled.specs.Row.{filled_of, times_of, cell_of}

-- the wanted list of a tray
abbrev pub wanted_of : Tray → List ℕ
wanted_of tray = wanted_list tray.k (filled_of tray) (times_of tray)

-- how many stops are filled
abbrev pub count_of : Tray → ℕ
count_of tray = ones tray.filled

-- the walk is at stop i in place p: the cell there holds the rest of the list, and `seen` are the stops after i, the last first
pub record Reached (tray : Tray) (seen : List ℕ) (p i : ℕ) : Type 0 where
  pub place : p < tray.n
  pub stop : i < tray.n
  pub cost : ℕ
  pub rest : List ℕ
  pub cell : cell_of tray p i ≡ at cost rest
  pub whole : backward (wanted_of tray) ≡ seen ++ i ∷ rest

-- the walk has come to stop i in place p, which stands at `at` of the list; the list is written from there on, and nothing beyond it
pub record Walking (tray : Tray) (before now' : List ℕ) (p i at : ℕ) : Type 0 where
  pub seen : List ℕ
  pub reached : Reached tray seen p i
  pub left : length seen + (at + 1) ≡ length (wanted_of tray)
  pub long : length now' ≡ length before
  pub room : length (wanted_of tray) ≤ length before
  pub written : (q : ℕ) → at ≤ q → q < length (wanted_of tray) → get_or now' q 0 ≡ in_place (wanted_of tray) q
  pub beyond : (q : ℕ) → length (wanted_of tray) ≤ q → get_or now' q 0 ≡ get_or before q 0

-- what a run leaves: the list, its forks, and work space that is 0
pub record ListIsWritten (tray : Tray) (list bits work list' bits' work' : List ℕ) (r : ListPlanned) : Type 0 where
  pub answered : r.total ≡ total (times_of tray) (wanted_of tray)
  pub counted : r.length ≡ length (wanted_of tray)
  pub wrote : list' ≡ over (wanted_of tray) list
  pub marked : bits' ≡ over (bit_string tray.k (list_forks tray.k (filled_of tray) (wanted_of tray))) bits
  pub cleared : work' ≡ replicate (length work) 0

abbrev pub WritesList : Tray → Unsigned → Unsigned → Unsigned → ListPlanned → Type 0
WritesList tray list bits work r =
    ListIsWritten tray (at_entry list) (at_entry bits) (at_entry work) (at_exit list) (at_exit bits) (at_exit work) r
