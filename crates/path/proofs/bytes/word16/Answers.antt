-- `path::word16` meets its contract: two bytes, the low one first.
use mathlib.Core.Path.{◌∙◌}
use Rattle.path.proofs.Words.{number-two}
use Rattle.path.proofs.bytes.word16.Goals as goal

pub returns : goal.returns
returns c = c.from_le_bytes.ensures ∙ number-two c.args.bytes.now c.args.at
