use Rattle.times.specs.Summing.{Summed}
use Rattle.times.proofs.moves.sum_moves.Given as goal

abbrev pub invariant-loop-number : goal.invariant-loop-number
invariant-loop-number l = Summed l.path.version l.path.bytes.now l.order l.number-index l.sum l.from.number l.from.stop
