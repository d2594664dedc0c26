-- `path::stop_size` meets its contract.
use mathlib.Core.Path.{sym, ap, ◌∙◌}
use Prim.Native.Nat.{ℕ, ◌+◌}
use native.Mathlib.Omega.{arith}
use Rattle.path.proofs.PlaceLaws.{size-range, size-length}
use Rattle.path.proofs.judge.stop_size.Goals as goal

pub overflow_add-result : goal.overflow_add-result
overflow_add-result c = omega (arith, size-range c.args.version, size-length c.args.version, c.length.ensures)

pub returns : goal.returns
returns c = ap (λ (n : ℕ). 2 + n) c.length.ensures ∙ sym (size-length c.args.version)
