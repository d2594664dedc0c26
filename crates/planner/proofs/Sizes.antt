-- The lengths that the method works with.
use mathlib.Core.Path.{◌≡◌, ◌∙◌}
use Prim.Native.Nat.{ℕ, ◌≤◌, ◌<◌}
use lib.Pow.{pow_pos}
use native.Mathlib.Omega.{arith}
use Rattle.base.proofs.Size.{stop_count-pow, pow-le-1024}
use Rattle.rows.specs.Row.{TwoRows}
use Rattle.rows.proofs.Table.{square-small}
use Rattle.planner.specs.Method.{LentSizes}

-- how many stops there are, for the tests of a call
pub ruleset counts = (stop_count-pow, pow-le-1024, square-small)

module _ {n a b c : ℕ} (s : LentSizes n a b c) where
  -- at most 1,024 stops
  pub sizes-small : n ≤ 1024
  sizes-small = rw s.stops (pow-le-1024 s.k s.small)

  -- and at least one
  pub sizes-pos : 0 < n
  sizes-pos = rw s.stops (pow_pos s.k)

  -- two rows of work space
  pub sizes-rows : TwoRows n b c
  sizes-rows = record { rows = omega (arith, s.rows); marks = omega (arith, s.marks) }

  -- the same lengths
  pub sizes-kept : {d e f : ℕ} → d ≡ a → e ≡ b → f ≡ c → LentSizes n d e f
  sizes-kept x y z = record { k = s.k; small = s.small; stops = s.stops; places = x ∙ s.places; rows = y ∙ s.rows; marks = z ∙ s.marks }
