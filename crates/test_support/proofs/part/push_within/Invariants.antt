use Rattle.std.proofs.Common.{◌≡◌, ◌++◌, take}
use Rattle.std.specs.List.{flat_map}
use Rattle.test_support.specs.Bytes.{two_bytes}
use Rattle.test_support.proofs.part.push_within.Given as goal

abbrev pub invariant-loop-number : goal.invariant-loop-number
invariant-loop-number g l = l.bytes.items ≡ l.initial.bytes.items ++ flat_map two_bytes (take l.number-index l.numbers)
