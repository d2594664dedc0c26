use mathlib.Core.Path.{◌≡◌}
use mathlib.Core.List.{◌++◌}
use lib.ListN.{drop}
use Rattle.orders.specs.Exchange.{inverted}
use Rattle.orders.proofs.exchanges.invert.Given as goal

abbrev pub invariant-loop-i : goal.invariant-loop-i
invariant-loop-i l = l.bits ≡ inverted l.i l.initial.bits l.other ++ drop l.i l.initial.bits
