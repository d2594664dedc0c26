-- `path::PathBytes::stop_within` meets its contract: the stop of the content at the stop's place.
use mathlib.Core.Path.{◌≡◌, sym, ap, ◌∙◌}
use Prim.Native.Nat.{ℕ, ◌+◌, ◌*◌}
use native.Mathlib.Omega.{arith}
use lib.ListN.{drop}
use Rattle.path.specs.Path.{stop_of, stop_place}
use Rattle.path.proofs.PlaceLaws.{place_is}
use Rattle.path.proofs.StopLaws.{within-stop}
use Rattle.path.proofs.PathBytes.stop_within.Goals as goal

pub overflow_mul-i : goal.overflow_mul-i
overflow_mul-i c =
    let content : let a = c.args in 12 + a.i * c.stop_size.result ≡ 4 + stop_place a.self.version a.i = let a = c.args in rw c.stop_size.ensures (omega (arith, place_is a.self.version a.i)) in
    omega (arith, content, c.requires)

pub overflow_add-i : goal.overflow_add-i
overflow_add-i c =
    let content : let a = c.args in 12 + a.i * c.stop_size.result ≡ 4 + stop_place a.self.version a.i = let a = c.args in rw c.stop_size.ensures (omega (arith, place_is a.self.version a.i)) in
    omega (arith, content, c.requires)

pub stop_at-requires : goal.stop_at-requires
stop_at-requires c =
    let content : let a = c.args in 12 + a.i * c.stop_size.result ≡ 4 + stop_place a.self.version a.i = let a = c.args in rw c.stop_size.ensures (omega (arith, place_is a.self.version a.i)) in
    omega (arith, content, c.requires)

pub returns : goal.returns
returns c =
    let content : let a = c.args in 12 + a.i * c.stop_size.result ≡ 4 + stop_place a.self.version a.i = let a = c.args in rw c.stop_size.ensures (omega (arith, place_is a.self.version a.i)) in
    let a = c.args in c.stop_at.ensures
    ∙ ap (λ (at : ℕ). stop_of a.self.version (drop at a.self.bytes.now)) content
    ∙ sym (within-stop a.self.version a.i a.self.bytes.now c.requires)
