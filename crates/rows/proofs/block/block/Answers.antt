-- `rows::block::block` meets its contract.
use mathlib.Core.Path.{ap}
use Prim.Native.Nat.{◌^◌}
use native.Mathlib.Omega.{arith}
use Rattle.rows.proofs.Blocks.{trail-odd-block, aligned-even}
use Rattle.rows.proofs.Passes.{pair-block, four-block}
use Rattle.rows.proofs.block.block.Goals as goal

pub pair-requires-clause-place_lt_n : goal.pair-requires-clause-place_lt_n
pair-requires-clause-place_lt_n g c =
    let n = c.requires.m_nonzero in
    let size = ap (λ x. 2 ^ x) c.if-m-eq1.true in
    (omega (arith, n.1.inside, size), trail-odd-block n.1 n.0, aligned-even n.2 n.0, omega (arith, n.2.inside, size))

pub returns-then-m-eq1 : goal.returns-then-m-eq1
returns-then-m-eq1 g c = pair-block _ _ c.if-m-eq1.true c.pair.ensures

pub returns-then-m-eq2 : goal.returns-then-m-eq2
returns-then-m-eq2 g c =
    let two = c.if-m-eq2.true in
    four-block _ _ two (omega (arith, c.requires.m_nonzero.2.inside, ap (λ x. 2 ^ x) two)) c.leaf.ensures
