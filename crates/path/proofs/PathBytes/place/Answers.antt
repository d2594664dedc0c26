-- `path::PathBytes::place` meets its contract: from 2^59 on a stop number lies past the end of all bytes, and below it the place fits.
use mathlib.Core.Path.{◌≡◌, refl}
use Prim.Native.Nat.{◌+◌, ◌*◌}
use native.Mathlib.Omega.{arith}
use Rattle.path.specs.Path.{stop_place}
use Rattle.path.proofs.PlaceLaws.{place-range, place_is}
use Rattle.path.proofs.PathBytes.place.Goals as goal

pub returns-then-i-ge576460752303423488 : goal.returns-then-i-ge576460752303423488
returns-then-i-ge576460752303423488 c =
    let a = c.args in let range = place-range a.self.version a.i in
    omega arith

pub overflow_mul-i : goal.overflow_mul-i
overflow_mul-i c =
    let a = c.args in let range = place-range a.self.version a.i in
    rw c.stop_size.ensures (omega (arith, place_is a.self.version a.i))

pub overflow_add-i : goal.overflow_add-i
overflow_add-i c =
    let a = c.args in let range = place-range a.self.version a.i in
    rw c.stop_size.ensures (omega (arith, place_is a.self.version a.i))

pub returns : goal.returns
returns c =
    let a = c.args in let place : stop_place a.self.version a.i ≡ 8 + a.i * c.stop_size.result = rw c.stop_size.ensures (place_is a.self.version a.i) in
    rw (c.min.ensures, place) refl
