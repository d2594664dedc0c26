use mathlib.Core.Path.{◌≡◌}
use Prim.Native.Nat.{◌*◌, ◌≤◌}
use lib.ListN.{length}
use Rattle.all_orders_output.specs.Text.{lines_of}
use Rattle.all_orders_output.specs.Local.{text_of, times_in, longest_line}
use Rattle.all_orders_output.proofs.lines.SmallTable.lines.Given as goal

abbrev pub invariant-loop-j : goal.invariant-loop-j
invariant-loop-j l = (text_of l.out ≡ lines_of l.self.k (times_in l.self) l.j) × (length (text_of l.out) ≤ longest_line * l.j)
