-- `filled::tray::group_beside` meets its contract: a stop below 64 and the group beside it are far below 2^64, so the shifts lose no bit.
use mathlib.Core.Path.{◌≡◌, ap, ◌∙◌}
use Prim.Native.Nat.{ℕ, ◌*◌, ◌/◌, ◌%◌, ◌^◌, ◌<◌}
use native.Mathlib.Nat.{one-mul}
use native.Mathlib.Omega.{arith}
use lib.Bits.{bit_xor, xor_lt}
use lib.Count.{count_trailing_zeros}
use lib.Pow.{shl_exact, shr_le}
use Rattle.tree.specs.Block.{beside_of}
use Rattle.tree.specs.Neighbour.{trail}
use Rattle.tree.proofs.Beside.{trail-count, trail-lt}
use Rattle.filled.proofs.tray.group_beside.Goals as goal
use Rattle.filled.proofs.tray.group_beside.Goals.{Start}

-- the trailing zeros of a place below 64
count : (c : Start) → count_trailing_zeros 64 c.args.p ≡ trail c.args.p
count c = trail-count 64 c.args.p (omega arith) c.ranges.p.fits

few : (c : Start) → count_trailing_zeros 64 c.args.p < 6
few c = omega (arith, count c, trail-lt 6 c.args.p (omega arith) (omega arith))

-- the shifts, of any number of bits below 6
first-is : (i t : ℕ) → i < 64 → t < 6 → bit_xor (i / 2 ^ t) 1 * 2 ^ t % 2 ^ 64 ≡ beside_of i t
unfolding beside_of
first-is i t a b = shl_exact 6 t 64 (xor_lt 6 (i / 2 ^ t) 1 (omega (arith, shr_le i t)) (omega arith)) (omega arith)

size_is : (t : ℕ) → t < 6 → 1 * 2 ^ t % 2 ^ 64 ≡ 2 ^ t
size_is t b = shl_exact 1 t 64 (omega arith) (omega arith) ∙ one-mul (2 ^ t)

pub returns : goal.returns
returns c = (
  first-is c.args.i (count_trailing_zeros 64 c.args.p) (omega arith) (few c) ∙ ap (beside_of c.args.i) (count c),
  size_is (count_trailing_zeros 64 c.args.p) (few c) ∙ ap (λ (t : ℕ). 2 ^ t) (count c),
)
