use Prim.Native.Nat.{◌^◌}
use lib.ListN.{take}
use Rattle.orders.specs.Bits.{byte_count, set_of_bits}
use Rattle.orders.proofs.Way.{Way}
use Rattle.orders.proofs.forks.ForkString.stop_in.Given as goal

abbrev pub invariant-loop-d : goal.invariant-loop-d
invariant-loop-d l = Way l.self.k (set_of_bits (take (byte_count (2 ^ l.self.k)) l.self.bytes.now)) l.p l.d l.v
