-- `path::put_end` meets its contract.
use mathlib.Core.Path.{◌∙◌}
use Rattle.path.proofs.WrittenLaws.{end-parts}
use Rattle.path.proofs.put.put_end.Goals as goal

pub returns : goal.returns
returns c = c.put_start.ensures ∙ rw end-parts
