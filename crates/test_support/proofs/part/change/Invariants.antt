use Rattle.std.proofs.Common.{◌≡◌, ◌/◌, ◌%◌, ◌^◌, take}
use Rattle.std.specs.List.{fold}
use Rattle.test_support.specs.Change.{changed_once}
use Rattle.test_support.proofs.part.change.Given as goal

abbrev pub invariant-loop-shift : goal.invariant-loop-shift
invariant-loop-shift l = l.bytes ≡ fold (λ bytes shift. changed_once (l.changes / 2 ^ shift % 65536) bytes) l.initial.bytes (take l.shift-index l.shift-items)
