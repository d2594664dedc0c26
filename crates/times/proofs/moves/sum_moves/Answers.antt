-- `times::moves::sum_moves` meets its contract: number after number.
use mathlib.Core.Path.{◌≡◌, ◌∙◌}
use mathlib.Core.List.{List, ◌∷◌}
use Prim.Native.Nat.{ℕ, ◌+◌}
use native.Mathlib.Numerals.{add-one}
use native.Mathlib.Omega.{arith}
use lib.ListN.{get_or}
use Rattle.times.proofs.Summing.{summed-more, summed-all}
use Rattle.times.proofs.moves.sum_moves.Goals as goal

after_first : (order : List ℕ) (first : ℕ) (rest : List ℕ) (i : ℕ) → order ≡ first ∷ rest → get_or rest i 0 ≡ get_or order (i + 1) 0
after_first order first rest i e = rw (e, add-one i)

pub loop-number-preserved : goal.loop-number-preserved
loop-number-preserved c =
    let parts : c.args.order.now ≡ c.in-Some.field-0-0.now ∷ c.in-Some.rest.now = c.in-Some.ensures.cases.0 in
    summed-more _ _ _ c.loop-number.number-index _ _ _ _ _ _ c.loop-number.invariant (c.of-to.ensures.0 ∙ after_first _ _ _ _ parts) c.of-to.ensures.1 (rw (c.from-sum.ensures, c.time_judged.ensures))

pub returns : goal.returns
returns c =
    summed-all _ _ _ c.loop-number.number-index _ _ _ c.loop-number.invariant (omega (arith, c.in-Some.ensures.cases.1, c.loop-number-test.false, c.loop-number.auto.number-index-end))
