-- The least of a row: the loop over all stops, one after another.
use mathlib.Core.Path.{◌≡◌, refl, ap}
use mathlib.Core.Bool.{Bool, true, false, cond}
use Prim.Native.Nat.{ℕ, zero, suc, ◌+◌, ◌≤◌, ◌<◌}
use native.Mathlib.Numerals.{add-one}
use native.Mathlib.Omega.{arith}
use lib.Dec.{ltb}
use Rattle.walks.specs.Rows.{turn, loop}
use Rattle.rows.specs.Row.{unreached}
use Rattle.planner.specs.Method.{least_of}

-- one stop more
pub least-next : (x : ℕ → ℕ) (d : ℕ) → least_of x (d + 1) ≡ turn true (x d) d (least_of x d)
unfolding least_of
least-next x d = rw add-one

-- it is walks' loop
pub least-loop : (x : ℕ → ℕ) (d : ℕ) → least_of x d ≡ loop unreached (λ j. true) x (λ j. j) d
unfolding least_of loop
least-loop x zero = refl
least-loop x (suc d) = ap (turn true (x d) d) (least-loop x d)

-- what is chosen is a stop
pub least_lt : (x : ℕ → ℕ) (d n : ℕ) → 0 < n → d ≤ n → (least_of x d).1 < n
unfolding least_of turn
least_lt x zero n a b = a
least_lt x (suc d) n a b = go (ltb (x d) (least_of x d).0) (least_lt x d n a (omega arith))
  where
    go : (t : Bool) → (least_of x d).1 < n → (cond t (x d, d) (least_of x d)).1 < n
    go true h = omega arith
    go false h = h
