-- `times::travel::time_over` meets its contract: each number on the way has 32 bits, for every distance, speed, blend and dwell.
use mathlib.Core.Path.{◌≡◌}
use Prim.Native.Nat.{ℕ, ◌≤◌}
use native.Mathlib.Omega.{arith}
use Rattle.stop.specs.Stop.{slowest}
use Rattle.times.specs.Time.{longest_travel, counted, nearest}
use Rattle.times.proofs.Nearest.{nearest-le}
use Rattle.times.proofs.travel.time_over.Goals as goal

-- a rounded quotient is at most what was divided
rounded : (p q t : ℕ) → t ≡ nearest p q → slowest ≤ q → p ≤ longest_travel → t ≤ longest_travel
rounded p q t e h l = omega (arith, e, nearest-le p q h)

pub overflow_add-result : goal.overflow_add-result
overflow_add-result c =
    record { fits = omega (arith, rounded _ _ _ c.nearest.ensures c.requires.1 (omega (arith, c.counted-far.ensures.1))) }
