use mathlib.Core.Path.{◌≡◌}
use Prim.Native.Nat.{◌≤◌}
use Rattle.reader.specs.Draws.{after_draws}
use Rattle.reader.proofs.draws.draw_number.Given as goal

-- the reader after i draws, each of them a stop
abbrev pub invariant-loop-i : goal.invariant-loop-i
invariant-loop-i l = (l._i ≤ l.d) × (l.reader ≡ after_draws l.initial.reader l._i)
