-- Laws of a path that is stored record by record: the room for the next one, what one more makes, and the whole.
use mathlib.Core.Path.{◌≡◌, sym, ◌∙◌}
use mathlib.Core.List.{List, []}
use Prim.Native.Nat.{ℕ, suc, ◌+◌, ◌*◌, ◌^◌, ◌≤◌, ◌<◌}
use native.Mathlib.Omega.{arith}
use lib.ListN.{length}
use Rattle.base.specs.Outcome.{over}
use Rattle.base.specs.Lists.{tabulate}
use Rattle.records.specs.Put.{put}
use Rattle.records.specs.Record.{record_bytes}
use Rattle.records.proofs.PutLaws.{put_three, put-none}
use Rattle.records.proofs.RecordLaws.{length-record_bytes}
use Rattle.stop.specs.declared.Stop.{Stop}
use Rattle.path.specs.Path.{stop_place, stop_size, path_size}
use Rattle.path.specs.Written.{stop_bytes, stops_bytes, head_bytes, path_bytes}
use Rattle.path.proofs.FillLaws.{next-record}
use Rattle.path.proofs.PlaceLaws.{place_is, next_place}
use Rattle.path.proofs.WrittenLaws.{length-head_bytes, length-stops_bytes, length-path_bytes, size_is, put-over}

-- there is room for the record of stop i where there is for n
pub record-room : (version i n size room : ℕ) → size ≡ stop_size version → i < n → stop_place version n ≤ room → 8 + (i * size + size) ≤ room
record-room version i n size room e h r =
    let next : i * stop_size version + stop_size version ≤ n * stop_size version = next_place i n (stop_size version) h in
    rw e (omega (arith, place_is version n))

-- no record
pub none-stored : (version n : ℕ) (before : List ℕ) → stop_place version n ≤ length before → before ≡ put before 8 (stops_bytes version [])
unfolding stops_bytes
none-stored version n before r = sym (put-none before 8 (omega (arith, place_is version n)))

-- one more record
pub next-stored : (version i : ℕ) (f : ℕ → Stop) (before out out' : List ℕ) (size : ℕ) (s : Stop) → size ≡ stop_size version → s ≡ f i → out ≡ put before 8 (stops_bytes version (tabulate i f)) → out' ≡ put out (8 + i * size) (stop_bytes version s) → 8 + (i * size + size) ≤ length before → out' ≡ put before 8 (stops_bytes version (tabulate (suc i) f))
next-stored version i f before out out' size s ez es eo e h = e ∙ rw (eo, ez, es) (next-record version i f before (rw ez at h))

-- the head, the stops and the end one after the other
pub stored-path : (version k : ℕ) (ss : List Stop) (before h r e : List ℕ) (at : ℕ) → length ss ≡ 2 ^ k → path_size version k ≤ length before → at ≡ 8 + 2 ^ k * stop_size version → h ≡ put before 0 (head_bytes version k) → r ≡ put h 8 (stops_bytes version ss) → e ≡ put r at (record_bytes 3 []) → e ≡ over (path_bytes version k ss) before
unfolding path_bytes
stored-path version k ss before h r e at many fits place eh er ee =
    let n = 2 ^ k * stop_size version in
    let room : 12 + n ≤ length before = rw size_is at fits in
    let head : length (head_bytes version k) ≡ 8 = length-head_bytes version k in
    let middle : length (stops_bytes version ss) ≡ n = length-stops_bytes version ss ∙ rw many in
    let end : length (record_bytes 3 []) ≡ 4 = length-record_bytes 3 [] in
    let whole : length (path_bytes version k ss) ≡ 12 + n = length-path_bytes version k ss ∙ rw many in
    put_three before 0 (head_bytes version k) (stops_bytes version ss) (record_bytes 3 []) h r e 8 at (omega arith) (omega arith) (omega arith) eh er ee
    ∙ put-over before (path_bytes version k ss) (omega arith)
