-- `plan_output::output_for` meets its contract: the job's file, or the record of its refusal.
use mathlib.Core.Path.{refl}
use Rattle.plan_output.proofs.Written.{output-file, output-refused}
use Rattle.plan_output.proofs.output_for.Goals as goal
use Rattle.plan_output.proofs.output_for.Goals.{in-Ok, in-Err}

pub returns : goal.returns
returns c =
    elim c.match-plan_file.branch [
      | in-Ok w ↦ rw w.result-is (output-file c.args.path.now _ _ _ refl c.plan_file.ensures _ w.in-Ok.is)
      | in-Err w ↦ rw w.result-is (output-refused c.args.path.now _ _ _ refl c.plan_file.ensures _ _ _ w.in-Err.is w.refusal.ensures.whole w.refusal.ensures.size)
    ]
