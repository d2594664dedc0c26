-- THE TABLE BY PLACES. Stop i stands in place p; what is the best list of filled stops up to i? Take r = 2^t, where t is the number of
-- trailing zero bits of p. The r places before p are filled by the group of 2^t stops beside the one that i is in. If that group has a
-- filled stop, the stop before i is one of it, and the group's last one may stand in place p - 1. If it has none, nothing stands in these
-- r places: it is as if i stood r places earlier.
use Rattle.std.specs.Prelude.{Bool, cond, List, [], ◌∷◌, ℕ, zero, suc, ◌-◌, ◌^◌, eqb}
use Rattle.std.specs.Int.Bits.{bit_xor}
use Rattle.tree.specs.Neighbour.{trail, reach}
use Rattle.walks.specs.Best.{Found, none, scan, first, step}
use Rattle.filled.specs.Forks.{filled_below, above}

-- the number of what stands above the group of 2^m stops beside the one that stop i is in
abbrev pub sibling : ℕ → ℕ → ℕ → ℕ
sibling k m i = bit_xor (above k m i) 1

-- the group beside stop i in place p, not 0, has a filled stop
abbrev pub beside_filled : ℕ → (ℕ → Bool) → ℕ → ℕ → Bool
beside_filled k s p i = filled_below k s (trail p) (sibling k (trail p) i)

module _ (k : ℕ) (s : ℕ → Bool) (t : ℕ → ℕ → ℕ) where
  -- coming to stop i in place p from the group beside it: `row` is the row of the place before
  unfoldable pub from_beside : (ℕ → Found (List ℕ)) → ℕ → ℕ → Found (List ℕ)
  from_beside row p i = scan (λ j. step (eqb (above k (trail p) j) (sibling k (trail p) i)) (t j i) (◌∷◌ j) (row j)) (2 ^ k)

  -- the cell of a filled stop i in place p, not 0, from the rows before
  unfoldable pub cell_from : (ℕ → ℕ → Found (List ℕ)) → ℕ → ℕ → Found (List ℕ)
  cell_from rows p i = cond (beside_filled k s p i) (from_beside (rows (p - 1)) p i) (rows (p - reach p) i)

  -- the rows of the places below d
  unfoldable pub rows_to : ℕ → ℕ → ℕ → Found (List ℕ)
  rows_to zero p i = none
  rows_to (suc d) zero i = first (s i) 0 []
  rows_to (suc d) (suc p) i = cond (s i) (cell_from (rows_to d) (suc p) i) none

  -- THE TABLE: for a filled stop i in place p the least total of a list up to i, with its stops before i, the last first; nothing for an
  -- empty stop
  unfoldable pub table_at : ℕ → ℕ → Found (List ℕ)
  table_at p i = rows_to (suc p) p i

  -- the best last stop, from the last row: any stop below the root
  unfoldable pub last_row : Found (List ℕ)
  last_row = scan (λ j. step (eqb (above k k j) 1) 0 (◌∷◌ j) (table_at (2 ^ k - 1) j)) (2 ^ k)
