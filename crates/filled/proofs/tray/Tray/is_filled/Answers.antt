-- `filled::tray::Tray::is_filled` meets its contract.
use mathlib.Core.Path.{refl}
use native.Mathlib.Omega.{arith}
use Rattle.filled.specs.Row.{in_set}
use Rattle.filled.proofs.Made.{tray-few}
use Rattle.filled.proofs.tray.Tray.is_filled.Goals as goal

pub overflow_shr-result : goal.overflow_shr-result
overflow_shr-result c = omega (arith, tray-few c.args.self.now)

pub returns : goal.returns
unfolding in_set
returns c = refl
