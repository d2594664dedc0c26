use Prim.Native.Nat.{◌^◌, ◌≤◌}
use lib.ListN.{length}
use Rattle.orders.specs.Allowed.{forks_of}
use Rattle.orders.specs.Lent.{order_in}
use Rattle.orders.specs.Bits.{byte_count}
use Rattle.orders.proofs.Marks.{Marks}
use Rattle.orders.proofs.forks.write_bits.Given as goal

abbrev pub invariant-loop-p : goal.invariant-loop-p
invariant-loop-p l =
    (byte_count (2 ^ l.k) ≤ length l.bits) × Marks l.k (order_in l.k l.order) (forks_of l.k (order_in l.k l.order)) l.initial.bits l.bits l.p
