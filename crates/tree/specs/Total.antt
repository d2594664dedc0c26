-- Moves and totals.
use Rattle.std.specs.Prelude.{List, ℕ, zero, suc, pred, ◌+◌, ◌*◌, length, get_or}
use Rattle.tree.specs.Neighbour.{in_place}

-- 'The table is any n² 32-bit unsigned entries, row "from", column "to"'
abbrev pub entry : ℕ → List ℕ → ℕ → ℕ → ℕ
entry n table from to = get_or table (from * n + to) 0

-- 'A move leads from the stop in place p−1 to the stop in place p .. and takes the table's entry from the one to the other': the sum
-- of the first m moves, where t a b is the entry from a to b
abbrev pub moves : (ℕ → ℕ → ℕ) → List ℕ → ℕ → ℕ
moves t o zero = 0
moves t o (suc m) = moves t o m + t (in_place o m) (in_place o (suc m))

-- 'The total is the sum of these entries; for n = 1 it is 0. The path is open'
abbrev pub total : (ℕ → ℕ → ℕ) → List ℕ → ℕ
total t o = moves t o (pred (length o))
