-- `filled::walk::Tray::stop_before` meets its contract: of the two neighbours that are weighed one is the stop.
use mathlib.Core.Path.{◌≡◌}
use Prim.Native.Nat.{◌+◌, ◌-◌, ◌%◌}
use native.Mathlib.Omega.{arith}
use Rattle.filled.proofs.Made.{tray-even, made-row, group-stop}
use Rattle.filled.proofs.tray.Tray.stop_before.Goals as goal

pub weigh_beside-two-requires : goal.weigh_beside-two-requires
weigh_beside-two-requires c =
    let t = c.args.self.now in
    let q = c.requires.inside in record {
      row = made-row t _ _ c.row.ensures (omega (arith, q.1));
      inside = (q.0, q.1, q.2, omega (arith, tray-even t c.args.p q.0 q.1, q.2));
    }

pub returns-then-i-eq0 : goal.returns-then-i-eq0
returns-then-i-eq0 c =
    let q = c.requires.inside in
    let e : c.args.i - c.args.i % 2 ≡ c.args.i = omega (arith, c.if-i-eq0.true) in
    λ d l. group-stop _ _ _ c.row.ensures q.0 q.1 c.args.i _ _ _ d l q.2 c.weigh_beside-two.ensures.one_value e c.requires.beside

pub returns : goal.returns
returns c =
    let q = c.requires.inside in
    let e : c.args.i - c.args.i % 2 + 1 ≡ c.args.i = omega (arith, c.if-i-eq0.false) in
    λ d l. group-stop _ _ _ c.row.ensures q.0 q.1 c.args.i _ _ _ d l q.2 c.weigh_beside-two.ensures.other_value e c.requires.beside
