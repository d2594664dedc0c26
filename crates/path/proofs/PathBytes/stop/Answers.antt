-- `path::PathBytes::stop` meets its contract: the record at the stop's place, where it lies within the bytes.
use mathlib.Core.Path.{◌≡◌, ap, ◌∙◌}
use Prim.Native.Nat.{ℕ, ◌+◌, ◌<◌, ◌≤◌}
use native.Mathlib.Omega.{arith}
use lib.ListN.{length, drop}
use borrow.Author.Tests.{le-leb, lt-leb}
use Rattle.path.specs.Path.{stop_in, stop_of, stop_place, stop_size}
use Rattle.path.proofs.PlaceLaws.{size-range}
use Rattle.path.proofs.PathBytes.stop.Goals as goal

pub overflow_add-at : goal.overflow_add-at
overflow_add-at c = rw (c.place-at.ensures, c.stop_size.ensures) (omega (arith, (size-range c.args.self.version).1))

pub returns-then-self-at : goal.returns-then-self-at
unfolding stop_in
returns-then-self-at c =
    let a = c.args in let past : length a.self.bytes.now < stop_place a.self.version a.i + stop_size a.self.version =
    omega (arith, c.place-at.ensures, c.stop_size.ensures, c.if-self-at.true) in
    rw (lt-leb _ _ past)

pub returns : goal.returns
unfolding stop_in
returns c =
    let a = c.args in let within : stop_place a.self.version a.i + stop_size a.self.version ≤ length a.self.bytes.now =
    omega (arith, c.place-at.ensures, c.stop_size.ensures, c.if-self-at.false) in
    let place : c.place-at.result + 4 ≡ 4 + stop_place a.self.version a.i = omega (arith, c.place-at.ensures) in
    rw (le-leb _ _ within) (c.stop_at.ensures ∙ ap (λ (at : ℕ). stop_of a.self.version (drop at a.self.bytes.now)) place)
