-- `path::loses_field` meets its contract: the blend or the dwell is lost.
use Rattle.std.proofs.Common.{rules}
use Rattle.path.proofs.StopFields.{explicit-loss}
use Rattle.path.proofs.form.loses_field.Goals as goal

pub returns-then-is_lost : goal.returns-then-is_lost
returns-then-is_lost c = let e = explicit-loss c.args.version c.args.s in search rules

pub returns-else-is_lost : goal.returns-else-is_lost
returns-else-is_lost c = let e = explicit-loss c.args.version c.args.s in search rules
