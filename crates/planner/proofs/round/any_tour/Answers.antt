-- `planner::round::any_tour` meets its contract.
use mathlib.Core.Path.{ap, ◌∙◌}
use Prim.Native.Nat.{◌^◌}
use Rattle.planner.proofs.Stores.{set-only}
use Rattle.planner.proofs.Tours.{tour-alone}
use Rattle.planner.proofs.round.any_tour.Goals as goal

pub returns-then-k-eq0 : goal.returns-then-k-eq0
returns-then-k-eq0 c =
    let one = c.requires.1 ∙ ap (λ x. 2 ^ x) c.if-k-eq0.true in
    tour-alone _ _ c.requires.1 c.if-k-eq0.true (set-only c.args.order.now (c.requires.3 ∙ one))
