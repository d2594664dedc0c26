-- `path::read_path` meets its contract: what was judged is stored.
use Rattle.std.proofs.Common.{◌≡◌, ◌∙◌, ◌^◌}
use Rattle.base.proofs.Size.{stop_count-pow}
use Rattle.stop.specs.Lent.{LentStops, buffers}
use Rattle.stop.proofs.Lent.{places, over-buffers}
use Rattle.path.specs.Reading.{stop_room}
use Rattle.path.proofs.JudgeLaws.{path-good}
use Rattle.path.proofs.ReadLaws.{room_fits, read_done}
use Rattle.path.proofs.read.read_path.Goals as goal

pub store_stops-requires : goal.store_stops-requires
store_stops-requires c =
    let a = c.args in let l : LentStops = buffers a.coords.now a.speeds.now a.blends.now a.dwells.now in
    let judged = path-good a.bytes.now a.highest (stop_room l) c.in_ok-path.path c.in_ok-path.ensures.path in
    rw (c.stop_count.ensures ∙ stop_count-pow _ judged.body.small) (places _ l (room_fits l _ judged.takes))

pub returns : goal.returns
returns c =
    let a = c.args in let l : LentStops = buffers a.coords.now a.speeds.now a.blends.now a.dwells.now in
    let p = c.in_ok-path.path in let e = c.in_ok-path.ensures in
    let judged = path-good a.bytes.now a.highest (stop_room l) p e.path in
    let count : c.stop_count.result ≡ 2 ^ p.k = c.stop_count.ensures ∙ stop_count-pow _ judged.body.small in
    read_done _ _ l _ _ _ _ judged.reads
    (over-buffers _ l _ _ _ _
    (c.store_stops.ensures.coords_after ∙ rw (count, e.same))
    (c.store_stops.ensures.speeds_after ∙ rw (count, e.same))
    (c.store_stops.ensures.blends_after ∙ rw (count, e.same))
    (c.store_stops.ensures.dwells_after ∙ rw (count, e.same)))
