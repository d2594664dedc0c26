-- `filled::tray::Tray::beside_filled` meets its contract.
use mathlib.Core.Path.{◌∙◌}
use native.Mathlib.Omega.{arith}
use Rattle.filled.proofs.Groups.{Grouped, grouped, group-test}
use Rattle.filled.proofs.tray.Tray.beside_filled.Goals as goal
use Rattle.filled.proofs.tray.Tray.beside_filled.Goals.{Start}

-- the group beside the stop
group : (c : Start) → let t = c.args.self.now in Grouped t.k t.n c.args.p c.args.i
group c = let t = c.args.self.now in grouped _ _ _ _ t.small t.stops c.requires.0 c.requires.1 c.requires.2

pub group_beside-requires : goal.group_beside-requires
group_beside-requires c = omega (arith, (group c).stops)

pub some_filled-requires : goal.some_filled-requires
some_filled-requires c = omega (arith, group c.before, c.group_beside.ensures.0, c.group_beside.ensures.1)

pub returns : goal.returns
returns c =
    let g = c.group_beside.ensures in
    c.some_filled.ensures ∙ group-test _ _ _ c.args.p _ _ _ (group c.before.before) c.args.self.now.stops c.requires.2 g.0 g.1
