use mathlib.Core.Path.{◌≡◌}
use Prim.Native.Nat.{ℕ, ◌≤◌}
use Rattle.filled.specs.Row.{filled_of}
use Rattle.filled.specs.Table.{table_at}
use Rattle.filled.proofs.tray.Tray.land.Given as goal

abbrev pub invariant-loop-q : goal.invariant-loop-q
invariant-loop-q l =
    (l.q ≤ l.p) × ((t : ℕ → ℕ → ℕ) → table_at l.self.k (filled_of l.self) t l.q l.i ≡ table_at l.self.k (filled_of l.self) t l.p l.i)

abbrev pub decreases-loop-q : goal.decreases-loop-q
decreases-loop-q l = l.q
