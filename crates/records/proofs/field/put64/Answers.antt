-- `records::put64` meets its contract: the library's bytes of a number are those of a field.
use mathlib.Core.Path.{ap, ◌∙◌}
use mathlib.Core.List.{List}
use Prim.Native.Nat.{ℕ}
use Rattle.records.specs.Put.{put}
use Rattle.records.proofs.ByteLaws.{bytes-low}
use Rattle.records.proofs.field.put64.Goals as goal

pub returns : goal.returns
returns c = c.put.ensures ∙ ap (λ (v : List ℕ). put c.args.s.now c.args.at v) (c.to_le_bytes.ensures ∙ bytes-low 8 c.args.value)
