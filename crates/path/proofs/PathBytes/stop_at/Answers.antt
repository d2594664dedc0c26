-- `path::PathBytes::stop_at` meets its contract: each field at its place in the content.
use mathlib.Core.Path.{◌≡◌, sym, ap, ◌∙◌}
use mathlib.Core.List.{List}
use Prim.Native.Nat.{ℕ, ◌+◌}
use native.Mathlib.Omega.{arith}
use lib.IntN.{ℤ}
use lib.ListN.{take, drop}
use lib.Seq.{drop-drop}
use mir.Syntax.{w32}
use mir.Val.{SFits, of_z, to_z}
use mir.ValLaws.{to_z-of_z}
use Rattle.records.specs.Field.{number_of, signed}
use Rattle.records.specs.Record.{blend_since, dwell_since}
use Rattle.path.specs.Local.{field_since}
use Rattle.path.proofs.PlaceLaws.{size-range, size-blend, size-dwell}
use Rattle.path.proofs.StopLaws.{same_stop}
use Rattle.path.proofs.PathBytes.stop_at.Goals as goal

-- a coordinate read from the array that holds it
held : (z : ℤ) → SFits w32 z → {y : ℤ} → z ≡ y → to_z w32 (of_z w32 z) ≡ y
held z fits e = to_z-of_z w32 z fits ∙ e

pub coordinate_in-requires : goal.coordinate_in-requires
coordinate_in-requires c = omega (arith, (size-range c.args.self.version).0)

pub coordinate_in-requires-2 : goal.coordinate_in-requires-2
coordinate_in-requires-2 c = omega (arith, (size-range c.args.self.version).0)

pub coordinate_in-requires-3 : goal.coordinate_in-requires-3
coordinate_in-requires-3 c = omega (arith, (size-range c.args.self.version).0)

pub word16-requires : goal.word16-requires
word16-requires c = omega (arith, (size-range c.args.self.version).0)

pub field_since-requires : goal.field_since-requires
field_since-requires c h = omega (arith, size-blend, size-dwell)

pub field_since-requires-2 : goal.field_since-requires-2
field_since-requires-2 c h = omega (arith, size-dwell _ h)

pub returns : goal.returns
returns c =
    let a = c.args in let at = a.at in let s = a.self.bytes.now in let inner : (o : ℕ) → drop (at + o) s ≡ drop o (drop at s) = λ o. sym (drop-drop o at s) in
    let coordinate : (o : ℕ) → signed (number_of (take 4 (drop (at + o) s))) ≡ signed (number_of (take 4 (drop o (drop at s)))) = λ o. ap (λ (l : List ℕ). signed (number_of (take 4 l))) (inner o) in
    same_stop a.self.version (drop at s)
    (held _ (record { sfits = c.coordinate_in.type_inv }) c.coordinate_in.ensures)
    (held _ (record { sfits = c.coordinate_in-2.type_inv }) (c.coordinate_in-2.ensures ∙ coordinate 4))
    (held _ (record { sfits = c.coordinate_in-3.type_inv }) (c.coordinate_in-3.ensures ∙ coordinate 8))
    (c.word16.ensures ∙ ap (λ (l : List ℕ). number_of (take 2 l)) (inner 12))
    (c.field_since.ensures ∙ ap (field_since blend_since a.self.version) (inner 14))
    (c.field_since-2.ensures ∙ ap (field_since dwell_since a.self.version) (inner 16))
