-- Loops that hold the least of some numbers, and the places of a square of n numbers a row.
use mathlib.Core.Path.{◌≡◌, sym}
use mathlib.Core.Bool.{true}
use mathlib.Core.List.{List}
use Prim.Native.Nat.{ℕ, suc, ◌+◌, ◌*◌, ◌^◌, ◌≤◌, ◌<◌}
use native.Mathlib.Nat.{mul-le-mul_right, suc-mul}
use native.Mathlib.Numerals.{add-one}
use native.Mathlib.Omega.{arith}
use borrow.Author.Tests.{le-leb, lt-leb}
use lib.Dec.{leb}
use lib.Pow.{pow_mono}
use Rattle.base.proofs.Size.{stop_count-pow}
use Rattle.tree.specs.Block.{beside_of}
use Rattle.tree.specs.Neighbour.{trail}
use Rattle.walks.specs.Rows.{turn, loop}
use Rattle.walks.proofs.Numbers.{loop-skip}
use Rattle.filled.specs.declared.tray.Tray.{Tray}
use Rattle.filled.specs.Row.{unreached, through, least_in, from_group}

-- ---- the least

-- nothing is held at first
pub least-none : (x : ℕ → ℕ) (first : ℕ) → (unreached, 0) ≡ loop unreached (leb first) x (λ j. j) first
unfolding loop
least-none x first = sym (loop-skip unreached (leb first) x (λ j. j) 0 first (omega arith) (λ j a b. lt-leb first j b))

-- one number more
pub least_more : (x : ℕ → ℕ) (first j : ℕ) (held : ℕ × ℕ) → first ≤ j → held ≡ loop unreached (leb first) x (λ j. j) j
    → turn true (x j) j held ≡ loop unreached (leb first) x (λ j. j) (j + 1)
unfolding loop
least_more x first j held b e = rw (add-one j, le-leb first j b, e)

-- what is held for a group, by its numbers as code has them
pub least-group : (tray : Tray) (row : List ℕ) (p i to first size : ℕ) (held : ℕ × ℕ) → held ≡ least_in (through tray row to) first size → first ≡ beside_of i (trail p) → size ≡ 2 ^ trail p
    → held ≡ from_group tray row p i to
unfolding from_group
least-group tray row p i to first size held e a b = rw (← a, ← b) e

-- ---- the square

-- a row is within n² entries
pub row-square : (n a : ℕ) → a < n → a * n + n ≤ n * n
row-square n a h = let r : suc a * n ≤ n * n = mul-le-mul_right n h in omega (arith, suc-mul a n)

-- where a row starts
pub row_small : (n a : ℕ) → a ≤ n → n ≤ 64 → a * n ≤ 4096
row_small n a l h =
    let b : a * n ≤ n * n = mul-le-mul_right n l in
    let c : n * n ≤ 64 * n = mul-le-mul_right n h in
    omega arith

-- all of them are few
pub square-small : (n : ℕ) → n ≤ 64 → n * n ≤ 4096
square-small n h = row_small n n (omega arith) h

-- a tree has at most 64 stops
pub pow-few : (k : ℕ) → k ≤ 6 → 2 ^ k ≤ 64
pow-few k h = pow_mono {i = k} {j = 6} h

-- how many stops there are, for the tests of lengths
pub ruleset counts = (stop_count-pow, pow-few, square-small)
