-- `path::Form::size` meets its contract.
use mathlib.Core.Path.{◌≡◌, sym}
use Prim.Native.Nat.{◌^◌, ◌*◌}
use native.Mathlib.Omega.{arith}
use Rattle.path.specs.Path.{stop_size}
use Rattle.path.proofs.WrittenLaws.{bytes-range, size_is}
use Rattle.path.proofs.form.Form.size.Goals as goal
use Rattle.path.proofs.form.Form.size.Goals.{After-stop_size}

-- the product, as the code makes it
product : (c : After-stop_size) → c.count.result * c.stop_size.result ≡ 2 ^ c.args.self.k * stop_size c.args.self.version
product c = rw (c.count.ensures, c.stop_size.ensures)

pub overflow_mul-result : goal.overflow_mul-result
overflow_mul-result c = rw (product c) (omega (arith, bytes-range c.args.self.version _ c.args.self.small))

pub overflow_add-result-2 : goal.overflow_add-result-2
overflow_add-result-2 c = rw (product c) (omega (arith, bytes-range c.args.self.version _ c.args.self.small))

pub returns : goal.returns
returns c = rw (product c) (sym (size_is _ _))
