use Prim.Native.Nat.{ℕ, ◌≤◌, ◌<◌}
use mathlib.Core.Path.{◌≡◌}
use mathlib.Core.Bool.{true}
use Rattle.stop.specs.Stop.{in_range}
use Rattle.stop.specs.Lent.{lent, stop_at}
use Rattle.stop.proofs.Stops.judge_each.Given as goal

-- every stop passed is in range
abbrev pub invariant-loop-i : goal.invariant-loop-i
invariant-loop-i l = (l.i ≤ l.count) × ((j : ℕ) → j < l.i → in_range (stop_at (lent l.self) j) ≡ true)
