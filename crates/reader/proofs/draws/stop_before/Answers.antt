-- `reader::stop_before` meets its contract: a cursor in the head stands at stop 0.
use Rattle.std.proofs.Common.{arith}
use Rattle.path.proofs.PlaceLaws.{size-range}
use Rattle.reader.specs.Draws.{stop_before}
use Rattle.reader.proofs.draws.stop_before.Goals as goal

pub nonzero_div-result : goal.nonzero_div-result
nonzero_div-result c = omega (arith, size-range c.args.version, c.stop_size.ensures)

pub returns : goal.returns
unfolding stop_before
returns c = rw (c.saturating_sub.ensures, c.stop_size.ensures)
