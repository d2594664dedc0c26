-- `records::put` meets its contract: the bytes stand at their place, or nothing is written.
use Rattle.std.proofs.Common.{◌≡◌, sym, ◌∙◌, ◌+◌, ◌-◌, ◌<◌, ◌≤◌, take, drop, length, arith, append_assoc}
use lib.Seq.{drop-drop}
use Rattle.records.proofs.PutLaws.{put-fits, put-short}
use Rattle.records.proofs.field.put.Goals as goal
use Rattle.records.proofs.field.put.Goals.{else-at-s-via-then-at-s+else-s-at, else-at-s-via-else-at-s}

pub returns-then-s-at : goal.returns-then-s-at
returns-then-s-at g c =
    let s = c.args.s.now in let at = c.args.at in let bytes = c.args.bytes in
    let width : at + g.row.N - at ≡ length bytes = omega arith in
    let fits : at + length bytes ≤ length s = omega arith in
    rw (width, c.copy_from_slice.ensures.after, drop-drop (length bytes) at s) (sym (append_assoc (take at s) bytes (drop (at + length bytes) s)) ∙ sym (put-fits s at bytes fits))

pub returns-else-at-s : goal.returns-else-at-s
returns-else-at-s g c =
    let short : length c.args.s.now < c.args.at + length c.args.bytes = elim c.else-at-s.branch [ else-at-s-via-then-at-s+else-s-at w ↦ omega arith | else-at-s-via-else-at-s w ↦ omega arith ] in
    sym (put-short _ _ _ short)
