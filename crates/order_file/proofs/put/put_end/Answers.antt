-- `order_file::put::put_end` meets its contract.
use mathlib.Core.Path.{◌≡◌, sym, ap, ap₂, ◌∙◌}
use mathlib.Core.List.{List, [], ◌++◌, append-nil}
use Prim.Native.Nat.{ℕ}
use native.Mathlib.Omega.{arith}
use Rattle.base.proofs.Size.{stop_count-pow}
use Rattle.records.specs.Field.{bytes_of}
use Rattle.records.specs.Put.{put}
use Rattle.records.proofs.LengthLaws.{end-length}
use Rattle.order_file.specs.File.{end_bytes, end_place}
use Rattle.order_file.proofs.Putting.{record-parts}
use Rattle.order_file.proofs.put.put_end.Goals as goal

-- the record in its place
written : (long at place : ℕ) (out u : List ℕ) → long ≡ 2 → at ≡ place → u ≡ put out at (bytes_of 2 long ++ bytes_of 2 3) → u ≡ put out place end_bytes
unfolding end_bytes
written long at place out u e f g =
    g ∙ ap₂ (λ (x : ℕ) (y : List ℕ). put out x y) f (sym (append-nil (bytes_of 2 long ++ bytes_of 2 3)) ∙ record-parts 3 long [] e)

pub returns : goal.returns
returns c =
    written _ _ _ _ _ (omega (arith, end-length 5)) (c.end_place.ensures ∙ ap end_place (stop_count-pow c.args.k c.requires)) c.put_record.ensures
