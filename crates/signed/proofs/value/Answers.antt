-- `signed::value` meets its contract: the most has 63 bits.
use mathlib.Core.Path.{ap, ◌∙◌}
use Prim.Native.Nat.{◌≤◌}
use native.Mathlib.Omega.{arith}
use lib.IntN.{pos}
use Rattle.std.proofs.Math.Nat.{min-le_right}
use Rattle.signed.specs.Result.{given, largest}
use Rattle.signed.proofs.AtMost.{lesser}
use Rattle.signed.proofs.Result.{read_count}
use Rattle.signed.proofs.value.Goals as goal
use Rattle.signed.proofs.value.Goals.{After-min}

-- what is cast
most : (c : After-min) → c.min.result ≤ largest
most c = rw c.min.ensures (min-le_right c.args.v largest)

pub returns : goal.returns
unfolding given
returns c = read_count c.min.result (omega (arith, most c)) ∙ ap pos (c.min.ensures ∙ lesser largest c.args.v)
