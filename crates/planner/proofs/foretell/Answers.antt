-- `planner::foretell` meets its contract: k decides alone.
use mathlib.Core.Path.{◌∙◌}
use Prim.Native.Nat.{◌≤◌}
use native.Mathlib.Omega.{arith}
use Rattle.base.proofs.Size.{stop_count-pow}
use Rattle.planner.proofs.Sums.{bytes-are, foretold-given}
use Rattle.planner.proofs.foretell.Goals as goal

pub returns : goal.returns
returns c =
    let k = c.args.k in
    let small : k ≤ 10 = omega (arith, c.if-k-gt-MAX_K.false) in
    foretold-given k _ _ small (bytes-are k _ (c.stop_count-n.ensures ∙ stop_count-pow k small)) c.weighings_for.ensures
