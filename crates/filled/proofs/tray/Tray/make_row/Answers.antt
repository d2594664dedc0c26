-- `filled::row::Tray::make_row` meets its contract. The loop's invariant: the rows before p are made, and the first i cells of row p.
use native.Mathlib.Omega.{arith}
use Rattle.filled.proofs.Made.{tray-even}
use Rattle.filled.proofs.tray.Tray.make_row.Goals as goal

pub make_two-requires-clause-inside : goal.make_two-requires-clause-inside
make_two-requires-clause-inside c =
    let q = c.requires.inside in
    (q.0, q.1, omega (arith, tray-even c.args.self.now c.args.p q.0 q.1, c.loop-i.invariant.0), c.loop-i.invariant.0)
