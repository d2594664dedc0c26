use mathlib.Core.Path.{◌≡◌}
use Prim.Native.Nat.{◌*◌, ◌≤◌}
use lib.ListN.{take}
use Rattle.tree.specs.Total.{entry, moves}
use Rattle.orders.proofs.sum.sum_moves.Given as goal

abbrev pub invariant-loop-p : goal.invariant-loop-p
invariant-loop-p l =
    (l.sum ≤ l.p * 4294967296) × (l.sum ≡ moves (entry l.n l.table) (take l.n l.order) l.p)
