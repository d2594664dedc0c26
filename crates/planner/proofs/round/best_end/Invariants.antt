use mathlib.Core.Path.{◌≡◌}
use Prim.Native.Nat.{◌+◌, ◌≤◌}
use lib.ListN.{length}
use Rattle.planner.specs.Tour.{EndHeld}
use Rattle.planner.proofs.round.best_end.Given as goal

abbrev pub invariant-loop-last : goal.invariant-loop-last
invariant-loop-last l =
    (l.last ≤ l.n) × (length l.totals ≡ l.n + l.n) × (length l.pivots ≡ l.n + l.n) × EndHeld l.n l.k l.table l.last l.held
