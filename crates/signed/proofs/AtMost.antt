-- A number that is held to a most.
use mathlib.Core.Path.{◌≡◌, refl}
use mathlib.Core.Bool.{Bool, true, false, cond}
use Prim.Native.Nat.{ℕ, ◌≤◌, ◌<◌}
use native.Mathlib.Omega.{arith}
use lib.Dec.{ltb}
use borrow.Author.Tests.{ltb-true, ltb-false, lt-ltb}
use Rattle.std.specs.Prelude.{min}
use Rattle.std.proofs.Math.Nat.{min-le_right, min-eq_left, min-eq_right}
use Rattle.signed.specs.Result.{at_most}

-- it is the lesser of the two
pub lesser : (most v : ℕ) → min v most ≡ at_most most v
unfolding at_most
lesser most v = go (ltb v most) refl
  where
    go : (b : Bool) → ltb v most ≡ b → min v most ≡ cond b v most
    go true e = let l = ltb-true v most e in min-eq_left {n = v} {m = most} (omega arith)
    go false e = min-eq_right {n = most} {m = v} (omega (arith, ltb-false v most e))

-- it is no more
pub held : (most v : ℕ) → at_most most v ≤ most
held most v = rw (← lesser most v) (min-le_right v most)

-- and a smaller one is kept
pub kept-below : (most v : ℕ) → v < most → at_most most v ≡ v
unfolding at_most
kept-below most v h = rw (lt-ltb v most h)
