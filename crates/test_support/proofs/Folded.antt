-- Twice the distance of a number from 0, and for one below it 1 less.
use Rattle.std.proofs.Common.{◌≡◌, ℤ, pos, negsuc, ◌-◌, ◌*◌, true, false, refl, arith}
use borrow.Author.Tests.{ltb-true}
use Rattle.std.proofs.Math.IntN.{nat_abs}
use Rattle.std.specs.Int.Signed.{lt_z}
use Rattle.test_support.specs.Sum.{folded}

pub folded_below : (z : ℤ) → lt_z z (pos 0) ≡ true → folded z ≡ nat_abs z * 2 - 1
folded_below (pos a) h = absurd (omega (arith, ltb-true a 0 h))
folded_below (negsuc a) h = omega arith

pub folded_above : (z : ℤ) → lt_z z (pos 0) ≡ false → folded z ≡ nat_abs z * 2
folded_above (pos a) h = refl
folded_above (negsuc a) h = cc
