-- A path that is not accepted is refused by a number of the table.
use mathlib.Core.Bool.{◌&&◌}
use mathlib.Core.List.{List}
use Prim.Native.Nat.{ℕ, zero, suc, ◌^◌}
use native.Mathlib.Omega.{arith}
use lib.Dec.{leb, eqb}
use lib.ListN.{length}
use Rattle.base.specs.Outcome.{Outcome}
use Rattle.base.proofs.Numbered.{Numbered, given, need-numbered, then-numbered, giving-numbered}
use Rattle.records.specs.Record.{take_record, record_length}
use Rattle.records.proofs.Numbers.{record-numbered}
use Rattle.stop.specs.declared.Stop.{Stop}
use Rattle.stop.specs.Stop.{judge_stop, in_range}
use Rattle.path.specs.Path.{path, known_version, read_head, head_of, head_fields, stop_of, stop_then, end_of, read_body, read_on, read_path}
use Rattle.path.specs.Written.{write_stops}

fields-numbered : (highest version k : ℕ) (rest : List ℕ) → Numbered (head_fields highest version k rest)
unfolding head_fields
fields-numbered highest version k rest =
    need-numbered (known_version version && leb version highest) 4 _ (omega arith) (omega arith) (need-numbered (leb k 10) 5 _ (omega arith) (omega arith) (given _))

head-numbered : (bytes : List ℕ) (highest : ℕ) → Numbered (read_head bytes highest)
unfolding read_head head_of
head-numbered bytes highest =
    need-numbered (known_version highest) 4 _ (omega arith) (omega arith)
    (then-numbered (take_record 1 (record_length 1 highest 0) bytes) (head_of highest) (record-numbered _ _ bytes) (λ t. fields-numbered highest _ _ t.rest))

stop-numbered : (s : Stop) → Numbered (judge_stop s)
unfolding judge_stop
stop-numbered s = need-numbered (in_range s) 6 _ (omega arith) (omega arith) (given s)

body-numbered : (version count : ℕ) (s : List ℕ) → Numbered (read_body version count s)
unfolding read_body stop_then end_of
body-numbered version zero s = then-numbered (take_record 3 (record_length 3 version 0) s) end_of (record-numbered _ _ s) (λ t. need-numbered (eqb (length t.rest) 0) 7 _ (omega arith) (omega arith) (given _))
body-numbered version (suc count) s =
    then-numbered (take_record 2 (record_length 2 version 0) s) (stop_then version (read_body version count)) (record-numbered _ _ s)
    (λ t. then-numbered (judge_stop (stop_of version t.content)) _ (stop-numbered _) (λ st. giving-numbered _ (read_body version count t.rest) (body-numbered version count t.rest)))

-- whatever the caller's own test of k is, as long as it refuses by such a number too
pub path-numbered : (bytes : List ℕ) (highest : ℕ) (test : ℕ → Outcome Unit) → ((k : ℕ) → Numbered (test k)) → Numbered (read_path bytes highest test)
unfolding read_path read_on
path-numbered bytes highest test t =
    then-numbered (read_head bytes highest) (read_on test) (head-numbered bytes highest)
    (λ h. then-numbered (test h.k) _ (t h.k) (λ passed. giving-numbered (path h.version h.k) (read_body h.version (2 ^ h.k) h.rest) (body-numbered h.version (2 ^ h.k) h.rest)))

-- stops that are not written
pub written-numbered : (version k room : ℕ) (ss : List Stop) → Numbered (write_stops version k room ss)
unfolding write_stops
written-numbered version k room ss =
    search (arith, need-numbered, given)
