-- `filled::fork::Tray::with_move` meets its contract.
use mathlib.Core.Path.{ap}
use lib.Bits.{bit_or}
use Rattle.filled.proofs.Moves.{Shifted, shifted, unmoved}
use Rattle.filled.proofs.tray.Tray.with_move.Goals as goal
use Rattle.filled.proofs.tray.Tray.with_move.Goals.{Then-b-a}

-- the fork that is shifted to
moved : (c : Then-b-a) → let t = c.args.self.now in Shifted t.k t.n c.args.a c.args.b
moved c = let t = c.args.self.now in shifted _ _ _ _ t.small t.stops c.requires.0 c.requires.1 c.if-b-a.true

pub overflow_shr-result : goal.overflow_shr-result
overflow_shr-result c = (moved (goal.at.overflow_shr-result c).Then-b-a).shift

pub overflow_shl-result : goal.overflow_shl-result
overflow_shl-result c = (moved (goal.at.overflow_shl-result c).Then-b-a).fork

pub returns-then-b-a : goal.returns-then-b-a
returns-then-b-a c = ap (bit_or c.args.forks) (moved (goal.at.returns-then-b-a c).Then-b-a).set

pub returns : goal.returns
returns c = unmoved _ _ _ _ c.if-b-a.false
