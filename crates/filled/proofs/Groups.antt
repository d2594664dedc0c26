-- What the code knows of the group of stops beside a stop: it is within the tree, and its test is that of its bits.
use mathlib.Core.Path.{◌≡◌}
use Prim.Native.Nat.{ℕ, ◌+◌, ◌/◌, ◌%◌, ◌^◌, ◌≤◌, ◌<◌}
use native.Mathlib.Omega.{arith}
use lib.Dec.{ltb}
use lib.Pow.{pow_pos, pow_mono, pow-lt}
use Rattle.tree.specs.Block.{beside_of}
use Rattle.tree.specs.Neighbour.{trail}
use Rattle.tree.proofs.Beside.{trail-lt}
use Rattle.filled.specs.Row.{in_set}
use Rattle.filled.specs.Table.{beside_filled}
use Rattle.filled.proofs.Bitset.{group-bits}
use Rattle.filled.proofs.Levels.{beside-room}

-- the numbers of the group beside stop i in place p
pub record Grouped (k n p i : ℕ) : Type 0 where
  pub level : trail p < k
  pub room : beside_of i (trail p) + 2 ^ trail p ≤ n
  pub start : beside_of i (trail p) < 64
  pub size : 2 ^ trail p < 64
  pub stops : n ≤ 64

pub grouped : (k n p i : ℕ) → k ≤ 6 → n ≡ 2 ^ k → 0 < p → p < n → i < n → Grouped k n p i
grouped k n p i h e a b c =
    let l : trail p < k = trail-lt k p a (rw e at b) in
    let r : beside_of i (trail p) + 2 ^ trail p ≤ 2 ^ k = beside-room k (trail p) i l (rw e at c) in
    let m : 2 ^ k ≤ 2 ^ 6 = pow_mono h in
    record { level = l; room = rw e r; start = omega (arith, pow_pos (trail p)); size = omega (arith, pow-lt {i = trail p} {j = k} l); stops = omega arith }

-- its test
pub group-test : (k n F p i first size : ℕ) → Grouped k n p i → n ≡ 2 ^ k → i < n → first ≡ beside_of i (trail p) → size ≡ 2 ^ trail p
    → ltb 0 (F / 2 ^ first % 2 ^ size) ≡ beside_filled k (in_set F) p i
group-test k n F p i first size g e b x y = rw (x, y) (group-bits k F (trail p) i g.level (rw e at b))
