-- Indices into a table of n rows, and whether a stop fits a place.
use mathlib.Core.Path.{◌≡◌, refl}
use mathlib.Core.Bool.{Bool, true, false, cond}
use Rattle.std.specs.Prelude.{Some}
use Prim.Native.Nat.{ℕ, ◌+◌, ◌*◌, ◌/◌, ◌%◌, ◌^◌, ◌≤◌}
use native.Mathlib.Nat.{mul-le-mul}
use borrow.Author.Tests.{eq-eqb}
use lib.Dec.{eqb}
use Rattle.tree.specs.Fork.{bit}
use Rattle.rows.specs.declared.fork.Held.{Held}
use mir.Val.{bool_byte}
use Rattle.rows.specs.Source.{held_fits}

-- a table of 1,024 stops has 2^20 entries
pub square-small : (n : ℕ) → n ≤ 1024 → n * n ≤ 1048576
square-small n h = mul-le-mul h h

-- stops below the fork that is held fit by their side
pub fits_below : (n : ℕ) (h : Held) (p i : ℕ) → (n + i) / 2 ^ (h.level + 1) ≡ h.fork → held_fits n (Some h) p i ≡ eqb (bit p h.level) ((bit i h.level + bool_byte h.exchanged) % 2)
unfolding held_fits
fits_below n h p i e = rw (eq-eqb _ _ e, state h.exchanged)
  where
    state : (b : Bool) → bool_byte b ≡ cond b 1 0
    state true = refl
    state false = refl
