-- `path::Form::count` meets its contract.
use mathlib.Core.Path.{◌∙◌}
use Rattle.base.proofs.Size.{stop_count-pow}
use Rattle.path.proofs.form.Form.count.Goals as goal

pub returns : goal.returns
returns c = c.stop_count.ensures ∙ stop_count-pow _ c.args.self.small
