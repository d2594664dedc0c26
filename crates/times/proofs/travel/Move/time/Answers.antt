-- `times::travel::Move::time` meets its contract: the leaf's numbers are those of two stops in range.
use native.Mathlib.Omega.{arith}
use Rattle.stop.proofs.Limits.{Good, good}
use Rattle.times.specs.Time.{travel, time}
use Rattle.times.proofs.travel.Move.time.Goals as goal

pub time_over-requires : goal.time_over-requires
time_over-requires c =
    let b : Good c.args.self.to = good c.args.self.to c.args.self.to_good in
    (c.distance.ensures.1, omega (arith, b.slow), omega (arith, b.fast), omega (arith, b.dwell))

pub returns : goal.returns
unfolding time travel
returns c = rw (← c.distance.ensures.0, ← c.from.ensures, ← c.from-2.ensures, ← c.from-3.ensures) c.time_over.ensures
