-- A pass over a block of places: what it asks, what it leaves, and how many candidates it weighs.
use Rattle.std.specs.Prelude.{◌≡◌, Bool, true, false, List, ℕ, zero, suc, ◌+◌, ◌*◌, ◌-◌, ◌^◌, ◌≤◌, ◌<◌, length, get_or}
use Rattle.base.specs.Buffer.{Unsigned, at_entry, at_exit}
use Rattle.walks.specs.Walk.{Graph}
use Rattle.walks.specs.Rows.{line, Codes}
use Rattle.tree.specs.Neighbour.{reach, may_follow}
use Rattle.tree.specs.Block.{beside_of}
use Rattle.rows.specs.Costing.{Costing, block_graph}
use Rattle.rows.specs.Row.{unreached, Kept, TwoRows}

-- an aligned block of 2^m of n
pub record AlignedBlock (n start m : ℕ) : Type 0 where
  pub number : ℕ
  pub starts : start ≡ number * 2 ^ m
  pub inside : start + 2 ^ m ≤ n

-- a block of stops that holds the 2^t candidates of each of its stops
pub record BlockClosed (t base size : ℕ) : Type 0 where
  pub low : (i : ℕ) → base ≤ i → i < base + size → base ≤ beside_of i t
  pub high : (i : ℕ) → base ≤ i → i < base + size → beside_of i t + 2 ^ t ≤ base + size

-- M-113: 'A weighing is one candidate predecessor considered for one stop in one place': the weighings of the d places from `from` on for
-- `size` stops, each of which may follow as many stops as the place reaches
unfoldable pub weighings : ℕ → ℕ → ℕ → ℕ
weighings size from zero = 0
weighings size from (suc d) = weighings size from d + size * reach (from + d)

-- those of a pass over 2^m places: 'the predecessor already fixed before a pass's first place is not weighed'
unfoldable pub pass_weighings : ℕ → ℕ
pass_weighings m = weighings (2 ^ m) 1 (2 ^ m - 1)

-- what a pass for n stops asks of its numbers and of the lengths of its work space: an aligned block of 2^m places, 2 or more, as large a block of stops, which may
-- follow the stop in the place before, and two rows of work space
pub record PassReady (n totals pivots before left base m : ℕ) : Type 0 where
  pub space : TwoRows n totals pivots
  pub some : 0 < m
  pub places : AlignedBlock n left m
  pub stops : AlignedBlock n base m
  pub earlier : before < n
  pub follows : 0 < left → may_follow left before base ≡ true

-- a test tells whether A holds
pub record Tells (b : Bool) (A : Type 0) : Type 0 where
  pub yes : b ≡ true → A
  pub no : b ≡ false → A → ⊥

-- the row at `off`: for each stop i of the block the cost of the best walk of p moves to i, and its stop after `mid` moves
pub record RowHolds (G : Graph) (mid p off base size : ℕ) (totals pivots : List ℕ) : Type 0 where
  pub holds : (i : ℕ) → base ≤ i → i < base + size → Codes unreached (get_or totals (off + i) 0) (get_or pivots (off + i) 0) (line G mid p i)

-- what a pass leaves: the odd row holds the best walks over the block's places, with their stops in its middle place, and r is the number of
-- weighings. What else the two rows hold is left open; beyond them nothing was written
pub record PassLeft (C : Costing) (before left base m : ℕ) (B P B' P' : List ℕ) (r : ℕ) : Type 0 where
  pub row : RowHolds (block_graph C before left) (2 ^ (m - 1) - 1) (2 ^ m - 1) C.stops base (2 ^ m) B' P'
  pub counted : r ≡ pass_weighings m
  pub totals_kept : Kept 0 (C.stops + C.stops) B B'
  pub pivots_kept : Kept 0 (C.stops + C.stops) P P'

-- THE PROMISE of a pass that answers r. A pass that is not asked for rightly writes nothing and answers 0
pub record PassMade (C : Costing) (before left base m : ℕ) (B P B' P' : List ℕ) (r : ℕ) : Type 0 where
  pub made : PassReady C.stops (length B) (length P) before left base m → PassLeft C before left base m B P B' P' r
  pub refused : (PassReady C.stops (length B) (length P) before left base m → ⊥) → (r ≡ 0) × (B' ≡ B) × (P' ≡ P)

-- the same of a call's parameters
abbrev pub MakesPass : Costing → Unsigned → Unsigned → (before left base m : ℕ) → ℕ → Type 0
MakesPass C totals pivots before left base m r =
    PassMade C before left base m (at_entry totals) (at_entry pivots) (at_exit totals) (at_exit pivots) r

-- the promise of a call that answers r for what stop i costs in place 0; no stop costs 0
pub record StartTold (C : Costing) (i r : ℕ) : Type 0 where
  pub told : i < C.stops → r ≡ C.start i
  pub refused : (i < C.stops → ⊥) → r ≡ 0
