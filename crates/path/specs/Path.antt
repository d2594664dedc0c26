-- What path bytes mean: 'A path is kind 1, n of kind 2, kind 3.'
use Rattle.std.specs.Prelude.{Bool, cond, ◌&&◌, List, [], ◌∷◌, ℕ, zero, suc, ◌+◌, ◌*◌, ◌^◌, leb, eqb, length, take, drop, get_or}
use Rattle.base.specs.Refusal.{wrong_version, wrong_k, trailing_bytes}
use Rattle.base.specs.Outcome.{Outcome, gives, need, and_then, giving}
use Rattle.base.specs.Size.{max_k}
use Rattle.base.specs.Lists.{tabulate}
use Rattle.records.specs.Field.{number_of, signed, unsigned, read_fields}
use Rattle.records.specs.Record.{Taken, take_record, record_length, stop_fields, oldest_version, path_kind, stop_kind, end_kind}
use Rattle.stop.specs.declared.Stop.{Stop}
use Rattle.stop.specs.Stop.{judge_stop, coordinate, zero_stop}

-- the newest version: 'The highest known version and the version to be written may be 4, 5 or 6' (M-102)
abbrev pub newest_version : ℕ
newest_version = 6

-- 4, 5 or 6
unfoldable pub known_version : ℕ → Bool
known_version version = leb oldest_version version && leb version newest_version

-- a stop's fields as numbers, in the order of its record: x, y, z in two's complement, speed, blend, dwell
unfoldable pub stop_values : Stop → List ℕ
stop_values s =
    unsigned (coordinate s 0) ∷ unsigned (coordinate s 1) ∷ unsigned (coordinate s 2) ∷ s.speed ∷ s.blend ∷ s.dwell ∷ []

-- the stop of such numbers; one that is not there counts as 0
unfoldable pub stop_of_values : List ℕ → Stop
stop_of_values vs =
    record {
      at = signed (get_or vs 0 0) ∷ signed (get_or vs 1 0) ∷ signed (get_or vs 2 0) ∷ [];
      speed = get_or vs 3 0;
      blend = get_or vs 4 0;
      dwell = get_or vs 5 0;
    }

-- the stop that a record's content means: the fields of the version; 'Version 4 reads as blend 0', 'Versions 4 and 5 read as dwell 0'
unfoldable pub stop_of : (version : ℕ) (content : List ℕ) → Stop
stop_of version content = stop_of_values (read_fields (stop_fields version) content)

-- ---- the head

-- version, k and the bytes after the head
pub record PathHead : Type 0 where
  pub version : ℕ
  pub k : ℕ
  pub rest : List ℕ

abbrev pub path_head : (version k : ℕ) (rest : List ℕ) → PathHead
path_head version k rest = record { version = version; k = k; rest = rest }

-- 'In the head: version, k'; 'A controller that knows only 4 or 5 still turns a newer path down at its head' (M-102)
unfoldable pub head_fields : (highest version k : ℕ) (rest : List ℕ) → Outcome PathHead
head_fields highest version k rest =
    need (known_version version && leb version highest) wrong_version
    (need (leb k max_k) wrong_k
    (gives (path_head version k rest)))

-- the fields of a whole head
unfoldable pub head_of : (highest : ℕ) → Taken → Outcome PathHead
head_of highest t = head_fields highest (number_of (take 2 t.content)) (number_of (take 2 (drop 2 t.content))) t.rest

-- 'Reading: highest known version first', then the head's record
unfoldable pub read_head : (bytes : List ℕ) (highest : ℕ) → Outcome PathHead
read_head bytes highest =
    need (known_version highest) wrong_version
    (and_then (take_record path_kind (record_length path_kind highest 0) bytes) (head_of highest))

-- ---- the stops and the end

-- a stop's record, whose stop is judged, and then the rest: 'a stop's field out of range' is found before anything after it
unfoldable pub stop_then : (version : ℕ) (next : List ℕ → Outcome (List Stop)) → Taken → Outcome (List Stop)
stop_then version next t = and_then (judge_stop (stop_of version t.content)) (λ s. giving (λ ss. s ∷ ss) (next t.rest))

-- the end record, and 'bytes after the end record'
unfoldable pub end_of : Taken → Outcome (List Stop)
end_of t = need (eqb (length t.rest) 0) trailing_bytes (gives [])

-- so many stops, and the end
unfoldable pub read_body : (version count : ℕ) (s : List ℕ) → Outcome (List Stop)
read_body version zero s = and_then (take_record end_kind (record_length end_kind version 0) s) end_of
read_body version (suc n) s =
    and_then (take_record stop_kind (record_length stop_kind version 0) s) (stop_then version (read_body version n))

-- ---- the whole path

-- version, k and the stops
pub record Path : Type 0 where
  pub version : ℕ
  pub k : ℕ
  pub stops : List Stop

abbrev pub path : (version k : ℕ) (stops : List Stop) → Path
path version k stops = record { version = version; k = k; stops = stops }

-- after the head 'then lent lengths (8)': the caller's own test of k, its limit and its lent lengths; then the stops and the end
unfoldable pub read_on : (test : ℕ → Outcome Unit) → PathHead → Outcome Path
read_on test h =
    and_then (test h.k) (λ passed. giving (path h.version h.k) (read_body h.version (2 ^ h.k) h.rest))

-- what path bytes mean to a caller that knows versions up to `highest` and has a test of k of its own
unfoldable pub read_path : (bytes : List ℕ) (highest : ℕ) (test : ℕ → Outcome Unit) → Outcome Path
read_path bytes highest test = and_then (read_head bytes highest) (read_on test)

-- a caller that takes every k
abbrev pub any_size : ℕ → Outcome Unit
any_size k = gives tt

-- the stops after the head of a path of a version and k, for a caller that has read the head; the version and k are tested again
unfoldable pub body_after_head : (bytes : List ℕ) (version k : ℕ) → Outcome (List Stop)
body_after_head bytes version k =
    need (known_version version) wrong_version
    (need (leb k max_k) wrong_k
    (read_body version (2 ^ k) (drop 8 bytes)))

-- ---- places in the bytes

-- the bytes that a stop's record takes, its length field too
unfoldable pub stop_size : (version : ℕ) → ℕ
stop_size version = 2 + record_length stop_kind version 0

-- where the record of stop i begins: after the head's 8 bytes and the records before it; at i = n the end record begins
unfoldable pub stop_place : (version i : ℕ) → ℕ
stop_place version i = 8 + i * stop_size version

-- the bytes that a path of 2^k stops takes: the head's 8, the stops, the end's 4
unfoldable pub path_size : (version k : ℕ) → ℕ
path_size version k = 12 + 2 ^ k * stop_size version

-- stop i of path bytes, whatever they are: where its record does not lie within them, the stop of zeros
unfoldable pub stop_in : (version i : ℕ) (bytes : List ℕ) → Stop
stop_in version i bytes =
    cond (leb (stop_place version i + stop_size version) (length bytes)) (stop_of version (drop (4 + stop_place version i) bytes)) zero_stop

-- the first n stops of path bytes, whatever they are
abbrev pub stops_in : (version n : ℕ) (bytes : List ℕ) → List Stop
stops_in version n bytes = tabulate n (λ i. stop_in version i bytes)

-- the stop of a record at the front of bytes, judged
unfoldable pub read_stop : (version : ℕ) (s : List ℕ) → Outcome Stop
read_stop version s =
    and_then (take_record stop_kind (record_length stop_kind version 0) s) (λ t. judge_stop (stop_of version t.content))
