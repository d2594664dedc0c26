-- `times::time_in` meets its contract: 0 from a stop to itself, and 0 in place of a refusal.
use Rattle.std.proofs.Common.{◌≡◌, ℕ, Result, Ok, Err, refl, ap, ◌∙◌}
use Rattle.std.specs.Result.{result_unwrap_or}
use borrow.Author.Tests.{eq-eqb, ne_eqb}
use Rattle.base.specs.declared.Refusal.{Refusal}
use Rattle.base.specs.Outcome.{said, value}
use Rattle.times.specs.InPath.{time_of}
use Rattle.times.proofs.time_in.Goals as goal

-- what a call gives, or 0
or_0 : (r : Result ℕ Refusal) → result_unwrap_or r 0 ≡ value 0 (said r)
or_0 (Ok t) = refl
or_0 (Err r) = refl

pub returns-then-from-to : goal.returns-then-from-to
unfolding time_of
returns-then-from-to c = rw (eq-eqb _ _ c.if-from-to.true)

pub returns : goal.returns
unfolding time_of
returns c =
    rw (ne_eqb _ _ c.if-from-to.false, ← c.stop.ensures, ← c.stop-2.ensures)
    (c.unwrap_or.ensures ∙ or_0 c.move_time.result ∙ ap (value 0) c.move_time.ensures)
