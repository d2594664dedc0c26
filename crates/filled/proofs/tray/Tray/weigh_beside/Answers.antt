-- `filled::row::Tray::weigh_beside` meets its contract: the group beside the stop is within the tree.
use Prim.Native.Nat.{◌+◌}
use native.Mathlib.Omega.{arith}
use Rattle.filled.proofs.Groups.{Grouped, grouped}
use Rattle.filled.proofs.Loops.{least-group}
use Rattle.filled.proofs.Made.{tray-few}
use Rattle.filled.proofs.tray.Tray.weigh_beside.Goals as goal

pub group_beside-requires : goal.group_beside-requires
group_beside-requires c = omega (arith, tray-few c.args.self.now)

pub cheapest_two-requires : goal.cheapest_two-requires
cheapest_two-requires c =
    let t = c.args.self.now in
    let q = c.requires.inside in
    let g : Grouped t.k t.n c.args.p c.args.i = grouped _ _ _ _ t.small t.stops q.0 q.1 q.2 in
    let e = c.group_beside.ensures in record { row = c.requires.row; inside = (omega (arith, g.room, e.0, e.1), q.3) }

pub returns : goal.returns
returns c =
    let a = c.args in
    let e = c.group_beside.ensures in record {
      one_value = least-group a.self.now a.before.now a.p a.i a.to _ _ _ c.cheapest_two.ensures.one_value e.0 e.1;
      other_value = least-group a.self.now a.before.now a.p a.i (a.to + 1) _ _ _ c.cheapest_two.ensures.other_value e.0 e.1;
    }
