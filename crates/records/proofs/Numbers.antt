-- A record that is not there is refused by a number of the table.
use mathlib.Core.List.{List}
use Prim.Native.Nat.{ℕ}
use native.Mathlib.Omega.{arith}
use Rattle.base.proofs.Numbered.{Numbered, given, need-numbered}
use Rattle.records.specs.Record.{take_record}

pub record-numbered : (kind long : ℕ) (s : List ℕ) → Numbered (take_record kind long s)
unfolding take_record
record-numbered kind long s = search (arith, need-numbered, given)
