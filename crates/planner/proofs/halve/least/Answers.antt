-- `planner::halve::least` meets its contract. The loop's invariant: what is held is the least of the stops before this one.
use mathlib.Core.Path.{◌≡◌, refl, sym, ap₂, ◌∙◌}
use mathlib.Core.Bool.{true}
use Prim.Native.Nat.{ℕ, ◌+◌, ◌-◌}
use native.Mathlib.Omega.{arith}
use lib.ListN.{length, get_or, take, drop}
use lib.Seq.{get_or-take, get_or-drop}
use Rattle.walks.specs.Rows.{turn}
use Rattle.planner.specs.Method.{least_of}
use Rattle.planner.proofs.Least.{least-next}
use Rattle.planner.proofs.halve.least.Goals as goal

pub loop-stop-init : goal.loop-stop-init
unfolding least_of
loop-stop-init c = refl

pub loop-stop-preserved : goal.loop-stop-preserved
loop-stop-preserved c =
    let a = c.args in
    let i : ℕ = c.loop-stop.stop in
    let x : ℕ → ℕ = λ j. get_or a.totals.now (a.n + j) 0 in
    let read : get_or (take (length a.totals.now - a.n) (drop a.n a.totals.now)) i 0 ≡ x i = get_or-take (length a.totals.now - a.n) (drop a.n a.totals.now) i 0 (omega arith) ∙ get_or-drop a.n a.totals.now i 0 in
    c.keep-held.ensures ∙ ap₂ (λ v s. turn true v i s) read c.loop-stop.invariant ∙ sym (least-next x i)
