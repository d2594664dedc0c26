-- `rows::ready::ready` meets its contract: no aligned block of at most 1,024 has an m above 10.
use native.Mathlib.Omega.{arith}
use Rattle.rows.proofs.Blocks.{aligned-small}
use Rattle.rows.proofs.Asked.{tells-no}
use Rattle.rows.proofs.ready.ready.Goals as goal

pub returns-then-m-gt10 : goal.returns-then-m-gt10
returns-then-m-gt10 c = tells-no (λ r. omega (arith, c.if-m-gt10.true, aligned-small r.places c.requires))
