-- `plan_output::Output::refusal` meets its contract: the record's length and kind, and then the number.
use mathlib.Core.Path.{◌≡◌, sym, ◌∙◌}
use native.Mathlib.Omega.{arith}
use Rattle.base.specs.Refusal.{refusal_number}
use Rattle.records.proofs.LengthLaws.{refused-length}
use Rattle.plan_output.proofs.Written.{length-refused, refusal-put}
use Rattle.plan_output.proofs.Output.refusal.Goals as goal
use Rattle.plan_output.proofs.Output.refusal.Goals.{After-length}

-- the length that was looked up: a kind 7 record has it in every version
length-is : (c : After-length) → c.length.result ≡ 4
length-is c = c.length.ensures ∙ refused-length _

pub overflow_cast-length : goal.overflow_cast-length
overflow_cast-length c = record { fits = omega (arith, length-is c) }

pub returns-clause-whole : goal.returns-clause-whole
returns-clause-whole c =
    refusal-put (refusal_number c.args.refusal) c.length.result c.put16.new.s (c.length.ensures ∙ refused-length _)
    (c.put16.ensures ∙ rw (c.number-2.ensures, c.put_pair.ensures, c.number.ensures))

pub returns-clause-size : goal.returns-clause-size
returns-clause-size c = sym (length-refused (refusal_number c.args.refusal))
