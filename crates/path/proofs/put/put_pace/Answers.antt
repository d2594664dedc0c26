-- `path::put_pace` meets its contract: the version says which fields there are.
use mathlib.Core.Path.{◌≡◌}
use mathlib.Core.List.{◌++◌}
use Prim.Native.Nat.{◌+◌}
use native.Mathlib.Omega.{arith}
use lib.ListN.{length, length-append}
use Rattle.records.specs.Field.{bytes_of}
use Rattle.records.proofs.FieldLaws.{length-bytes_of}
use Rattle.records.proofs.PutLaws.{put_two}
use Rattle.path.proofs.PlaceLaws.{size-dwell}
use Rattle.path.proofs.StopFields.{pace-plain, pace-blended, pace-dwelling}
use Rattle.path.proofs.put.put_pace.Goals as goal

pub returns-then-version-lt-BLEND_SINCE : goal.returns-then-version-lt-BLEND_SINCE
returns-then-version-lt-BLEND_SINCE c = rw (pace-plain _ _ _ _ c.if-version-lt-BLEND_SINCE.true) c.put16.ensures

pub returns-then-version-ge-DWELL_SINCE : goal.returns-then-version-ge-DWELL_SINCE
returns-then-version-ge-DWELL_SINCE c =
    let a = c.args in let both : length (bytes_of 2 a.speed ++ bytes_of 2 a.blend) ≡ 4 = rw (length-append, length-bytes_of, length-bytes_of) in
    let one : length (bytes_of 2 a.dwell) ≡ 2 = length-bytes_of 2 a.dwell in
    rw (pace-dwelling _ _ _ _ c.if-version-lt-BLEND_SINCE.false c.if-version-ge-DWELL_SINCE.true)
    (put_two a.out.now a.at (bytes_of 2 a.speed ++ bytes_of 2 a.blend) (bytes_of 2 a.dwell) _ _ (a.at + 4)
    (omega (arith, c.requires, size-dwell a.version c.if-version-ge-DWELL_SINCE.true))
    (omega arith)
    c.put_pair.ensures
    c.put16-then-version-ge-DWELL_SINCE.ensures)

pub returns-else-version-ge-DWELL_SINCE : goal.returns-else-version-ge-DWELL_SINCE
returns-else-version-ge-DWELL_SINCE c =
    rw (pace-blended _ _ _ _ c.if-version-lt-BLEND_SINCE.false c.if-version-ge-DWELL_SINCE.false) c.put_pair.ensures
