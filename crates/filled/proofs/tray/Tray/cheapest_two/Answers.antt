-- `filled::choice::Tray::cheapest_two` meets its contract. The loop's invariant: what is held for each of the two stops is the least of the
-- candidates before `from`, and the times of candidate `from` stand at `at`.
use mathlib.Core.Path.{◌≡◌, refl, ap, ◌∙◌}
use Prim.Native.Nat.{ℕ, ◌+◌, ◌*◌}
use native.Mathlib.Nat.{suc-mul}
use native.Mathlib.Numerals.{add-one}
use native.Mathlib.Omega.{arith}
use Rattle.filled.specs.Row.{through}
use Rattle.filled.proofs.Loops.{least-none, least_more}
use Rattle.filled.proofs.tray.Tray.cheapest_two.Goals as goal

pub loop-from-init : goal.loop-from-init
loop-from-init c = (refl, least-none _ c.args.group.first, least-none _ c.args.group.first)

pub loop-from-preserved : goal.loop-from-preserved
loop-from-preserved c =
    let a = c.args in
    let l = c.loop-from in
    let n : ℕ = a.self.now.n in
    let next : (l.from + 1) * n ≡ l.from * n + n = ap (λ (x : ℕ). x * n) (add-one l.from) ∙ omega (arith, suc-mul l.from n) in
    let after : l.at + 1 ≡ l.from * n + (a.to + 1) = omega (arith, l.invariant.0) in
    let e = c.weigh_two-held.ensures in (
      omega (arith, l.invariant.0, next),
      rw l.invariant.0 at e.one_value ∙ least_more (through a.self.now a.row.now a.to) a.group.first l.from _ (omega arith) l.invariant.1,
      rw after at e.other_value ∙ least_more (through a.self.now a.row.now (a.to + 1)) a.group.first l.from _ (omega arith) l.invariant.2,
    )
