-- `path::put_point` meets its contract: three fields side by side.
use mir.Syntax.{w32}
use mir.ValLaws.{to_z-of_z}
use mir.Val.{SFits}
use Prim.Native.Nat.{ℕ, ◌+◌}
use native.Mathlib.Omega.{arith}
use mathlib.Core.List.{List}
use lib.IntN.{pos}
use lib.ListN.{get_or}
use Rattle.records.specs.Field.{bytes_of, unsigned}
use Rattle.records.proofs.FieldLaws.{length-bytes_of}
use Rattle.records.proofs.PutLaws.{put_three}
use Rattle.path.specs.Written.{point_bytes}
use borrow.Author.Rules.{rules}
use Rattle.path.proofs.put.put_point.Goals as goal

pub returns : goal.returns
unfolding point_bytes
returns c =
    let a = c.args in let f0 : SFits w32 (get_or a.point 0 (pos 0)) = search rules in
    let f1 : SFits w32 (get_or a.point 1 (pos 0)) = search rules in
    let f2 : SFits w32 (get_or a.point 2 (pos 0)) = search rules in
    let b : ℕ → List ℕ = λ i. bytes_of 4 (unsigned (get_or a.point i (pos 0))) in
    put_three a.out.now a.at (b 0) (b 1) (b 2) c.put_signed.new.s c.put_signed-2.new.s _ (a.at + 4) (a.at + 8)
    (rw (length-bytes_of, length-bytes_of, length-bytes_of) (omega arith))
    (rw length-bytes_of)
    (rw (length-bytes_of, length-bytes_of) (omega arith))
    (rw (to_z-of_z w32 (get_or a.point 0 (pos 0)) f0) at c.put_signed.ensures)
    (rw (to_z-of_z w32 (get_or a.point 1 (pos 0)) f1) at c.put_signed-2.ensures)
    (rw (to_z-of_z w32 (get_or a.point 2 (pos 0)) f2) at c.put_signed-3.ensures)
