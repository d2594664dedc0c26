-- What bytes a path is written as, and what the writing calls promise.
use Rattle.std.specs.Prelude.{◌≡◌, Bool, true, false, ◌&&◌, ◌||◌, not, List, [], ◌∷◌, ◌++◌, ℕ, ◌^◌, leb, eqb, ℤ, pos, length, drop, get_or, Result}
use Rattle.base.specs.Refusal.{wrong_version, wrong_k, wrong_size, lost_field}
use Rattle.base.specs.Outcome.{Outcome, gives, need, and_then, giving, said, after}
use Rattle.base.specs.Buffer.{Unsigned, at_entry, at_exit}
use Rattle.base.specs.Size.{max_k}
use Rattle.records.specs.Field.{bytes_of, unsigned, write_fields}
use Rattle.records.specs.Record.{stop_fields, record_bytes, path_kind, stop_kind, end_kind}
use Rattle.base.specs.declared.Refusal.{Refusal}
use Rattle.stop.specs.declared.Stop.{Stop}
use Rattle.stop.specs.declared.Stops.{Stops}
use Rattle.stop.specs.Lent.{LentStops, lent, judge_lent}
use Rattle.path.specs.declared.PathBytes.{PathBytes}
use Rattle.path.specs.Path.{known_version, stop_values, body_after_head}

-- a stop's content: the fields of the version
unfoldable pub stop_content : (version : ℕ) → Stop → List ℕ
stop_content version s = write_fields (stop_fields version) (stop_values s)

-- a stop's record
unfoldable pub stop_bytes : (version : ℕ) → Stop → List ℕ
stop_bytes version s = record_bytes stop_kind (stop_content version s)

-- the records of stops, one after the other
unfoldable pub stops_bytes : (version : ℕ) → List Stop → List ℕ
stops_bytes version [] = []
stops_bytes version (s ∷ ss) = stop_bytes version s ++ stops_bytes version ss

-- the head's record: version, k
unfoldable pub head_bytes : (version k : ℕ) → List ℕ
head_bytes version k = record_bytes path_kind (bytes_of 2 version ++ bytes_of 2 k)

-- the path of these stops
unfoldable pub path_bytes : (version k : ℕ) → List Stop → List ℕ
path_bytes version k ss = head_bytes version k ++ stops_bytes version ss ++ record_bytes end_kind []

-- every number of the list is 0
unfoldable pub all_zero : List ℕ → Bool
all_zero [] = true
all_zero (x ∷ xs) = eqb x 0 && all_zero xs

-- 'Number 13 covers any field not 0 that the version to be written lacks' (M-102)
unfoldable pub loses_field : (version : ℕ) → Stop → Bool
loses_field version s = not (all_zero (drop (length (stop_fields version)) (stop_values s)))

-- one of the stops has such a field
unfoldable pub loses_any : (version : ℕ) → List Stop → Bool
loses_any version [] = false
loses_any version (s ∷ ss) = loses_field version s || loses_any version ss

-- the path of 2^k stops in a version, to be written to an output of `room` bytes: 13, then 8
unfoldable pub write_stops : (version k room : ℕ) → List Stop → Outcome (List ℕ)
write_stops version k room ss =
    need (not (loses_any version ss)) lost_field
    (need (leb (length (path_bytes version k ss)) room) wrong_size
    (gives (path_bytes version k ss)))

-- 'Writing a path: version, k, stops lent (8), 6 in stop order, 13, output (8)'
unfoldable pub write_path : (version k : ℕ) (lent : LentStops) (room : ℕ) → Outcome (List ℕ)
write_path version k lent room =
    need (known_version version) wrong_version
    (need (leb k max_k) wrong_k
    (and_then (judge_lent (2 ^ k) lent) (write_stops version k room)))

-- path bytes written in another version, for a caller that has read their head: the stops and the end are read first; 'the version to be
-- written is tested after that'; then 13, and 'a rewritten path's output is tested last'
unfoldable pub rewrite_after_head : (bytes : List ℕ) (version k wanted room : ℕ) → Outcome (List ℕ)
rewrite_after_head bytes version k wanted room =
    and_then (body_after_head bytes version k) (λ ss. need (known_version wanted) wrong_version (write_stops wanted k room ss))

-- the promise of a call that writes the bytes of an outcome: the answer, and the output before and after
pub record BytesAreWritten (o : Outcome (List ℕ)) (before afterwards : List ℕ) (r : Result ℕ Refusal) : Type 0 where
  pub said : said r ≡ giving length o
  pub left : afterwards ≡ after o (λ bytes. bytes) before

-- the same of the parameters of each call
abbrev pub WritesPath : ℕ → ℕ → Stops → Unsigned → Result ℕ Refusal → Type 0
WritesPath version k stops out r =
    BytesAreWritten (write_path version k (lent stops) (length (at_entry out))) (at_entry out) (at_exit out) r

abbrev pub RewritesPath : PathBytes → ℕ → Unsigned → Result ℕ Refusal → Type 0
RewritesPath path wanted out r =
    BytesAreWritten (rewrite_after_head path.bytes.now path.version path.k wanted (length (at_entry out))) (at_entry out) (at_exit out) r

-- ---- the parts of a stop's content, as they are written one after the other

-- x, y, z
unfoldable pub point_bytes : List ℤ → List ℕ
point_bytes point =
    bytes_of 4 (unsigned (get_or point 0 (pos 0))) ++ bytes_of 4 (unsigned (get_or point 1 (pos 0))) ++ bytes_of 4 (unsigned (get_or point 2 (pos 0)))

-- what comes after them: speed, and of blend and dwell what the version has
unfoldable pub pace_bytes : (version speed blend dwell : ℕ) → List ℕ
pace_bytes version speed blend dwell = write_fields (drop 3 (stop_fields version)) (speed ∷ blend ∷ dwell ∷ [])
