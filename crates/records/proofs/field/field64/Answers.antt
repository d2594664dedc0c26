-- `records::field64` meets its contract: the number that eight bytes spell.
use Rattle.std.proofs.Common.{◌∙◌}
use lib.ListN.{drop}
use Rattle.records.proofs.ByteLaws.{number-sum}
use Rattle.records.proofs.field.field64.Goals as goal

pub returns : goal.returns
returns c = c.from_le_bytes.ensures ∙ rw c.field.ensures (number-sum (drop c.args.at c.args.s.now) 7)
