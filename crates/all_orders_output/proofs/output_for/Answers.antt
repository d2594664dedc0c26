-- `all_orders_output::output_for` meets its contract: the text of the path, or that of its refusal.
use mathlib.Core.Path.{◌∙◌}
use Rattle.all_orders_output.proofs.Printing.{output-text, output-refused, is-output}
use Rattle.all_orders_output.proofs.output_for.Goals as goal

pub returns-in-Ok : goal.returns-in-Ok
returns-in-Ok c = is-output c.args.path.now c.in-Ok.output (output-text c.args.path.now _ c.in-Ok.ensures)

pub returns-in-Err : goal.returns-in-Err
returns-in-Err c = is-output c.args.path.now c.refusal.result (c.refusal.ensures ∙ output-refused c.args.path.now _ c.in-Err.ensures)
