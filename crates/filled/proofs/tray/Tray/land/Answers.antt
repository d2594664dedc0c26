-- `filled::walk::Tray::land` meets its contract. The loop's invariant: the stop has the same cell in place q as in place p.
use mathlib.Core.Path.{◌≡◌, sym, ap, ◌∙◌}
use Prim.Native.Nat.{ℕ, ◌-◌}
use native.Mathlib.Omega.{arith}
use Rattle.tree.specs.Neighbour.{reach}
use Rattle.tree.proofs.Beside.{reach_of-pos}
use Rattle.orders.proofs.Shift.{reach-pos}
use Rattle.filled.specs.Row.{filled_of}
use Rattle.filled.specs.Table.{table_at}
use Rattle.filled.proofs.Recurrence.{reach-le, table-skip}
use Rattle.filled.proofs.tray.Tray.land.Goals as goal
use Rattle.filled.proofs.tray.Tray.land.Goals.{After-reach-q}

-- the place's reach
back : (c : After-reach-q) → c.reach-q.result ≡ reach c.loop-q.q
back c = c.reach-q.ensures ∙ reach_of-pos _ c.loop-q-test.true

pub overflow_sub-q : goal.overflow_sub-q
overflow_sub-q c =
    omega (arith, back (goal.at.overflow_sub-q c).After-reach-q, reach-le _ c.loop-q-test.true)

pub loop-q-smaller : goal.loop-q-smaller
loop-q-smaller c =
    omega (arith, back (goal.at.loop-q-smaller c).After-reach-q, reach-pos c.loop-q.q)

pub loop-q-preserved : goal.loop-q-preserved
loop-q-preserved c =
    let t = c.args.self.now in
    let l = c.loop-q in
    let empty = sym c.beside_filled.ensures ∙ c.if-beside_filled.false in (
      omega arith,
      λ times. ap (λ (r : ℕ). table_at t.k (filled_of t) times (l.q - r) c.args.i) (back (goal.at.loop-q-preserved c).After-reach-q)
          ∙ sym (table-skip t.k (filled_of t) times l.q c.args.i c.loop-q-test.true empty) ∙ l.invariant.1 times,
    )
