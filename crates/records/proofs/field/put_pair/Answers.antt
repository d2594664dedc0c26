-- `records::put_pair` meets its contract: two fields side by side.
use mathlib.Core.Path.{sym, ap, ◌∙◌}
use Prim.Native.Nat.{ℕ, ◌+◌, ◌≤◌}
use native.Mathlib.Omega.{arith}
use lib.ListN.{length, length-append}
use Rattle.records.specs.Field.{bytes_of}
use Rattle.records.specs.Put.{put}
use Rattle.records.proofs.FieldLaws.{length-bytes_of}
use Rattle.records.proofs.PutLaws.{put-short, put-put}
use Rattle.records.proofs.field.put_pair.Goals as goal

pub returns-then-s-at-ge4 : goal.returns-then-s-at-ge4
returns-then-s-at-ge4 c =
    let a = c.args in let fits : a.at + (length (bytes_of 2 a.first) + length (bytes_of 2 a.second)) ≤ length a.s.now =
    rw (length-bytes_of, length-bytes_of) (omega arith) in
    c.put16-then-s-at-ge4.ensures
    ∙ rw c.put16.ensures
    (ap (λ (n : ℕ). put (put a.s.now a.at (bytes_of 2 a.first)) (a.at + n) (bytes_of 2 a.second)) (sym (length-bytes_of 2 a.first))
    ∙ put-put a.s.now a.at (bytes_of 2 a.first) (bytes_of 2 a.second) fits)

pub returns-else-at-s : goal.returns-else-at-s
returns-else-at-s c = sym (put-short _ _ _ (rw (length-append, length-bytes_of, length-bytes_of) (omega arith)))
