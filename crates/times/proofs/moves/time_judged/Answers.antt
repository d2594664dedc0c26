-- `times::moves::time_judged` meets its contract: a number below n has a stop in range, and no other number has one.
use borrow.Author.Tests.{ne_eqb}
use Rattle.times.specs.InPath.{time_of}
use Rattle.times.proofs.Time.{move-good}
use Rattle.times.proofs.Summing.{no-time}
use Rattle.times.proofs.moves.time_judged.Goals as goal

pub returns-then-n-to : goal.returns-then-n-to
returns-then-n-to c = no-time _ _ _ _ _ c.requires.0 c.requires.1 c.if-n-to.either

pub returns-else-n-to : goal.returns-else-n-to
unfolding time_of
returns-else-n-to c =
    rw (ne_eqb _ _ c.if-n-to.false.0, move-good _ _ (c.requires.0.good c.if-n-to.false.1) (c.requires.1.good c.if-n-to.false.2)) c.time.ensures
