-- Records: 'A record is a 2-byte length counting the bytes after it, a 2-byte kind, the content.'
use Rattle.std.specs.Prelude.{Bool, cond, ◌&&◌, List, [], ◌∷◌, ◌++◌, ℕ, ◌+◌, ◌-◌, ◌*◌, ◌/◌, leb, eqb, length, take, drop}
use Rattle.base.specs.Refusal.{truncated, wrong_length, wrong_kind}
use Rattle.base.specs.Outcome.{Outcome, gives, need}
use Rattle.records.specs.Field.{number_of, bytes_of}

-- the kinds of the table in 'Records': the head of a path,
abbrev pub path_kind : ℕ
path_kind = 1

-- a stop of it,
abbrev pub stop_kind : ℕ
stop_kind = 2

-- the end of a path or an order file,
abbrev pub end_kind : ℕ
end_kind = 3

-- the head of an order file,
abbrev pub order_kind : ℕ
order_kind = 4

-- its total and stops,
abbrev pub stops_kind : ℕ
stops_kind = 5

-- its fork bits,
abbrev pub forks_kind : ℕ
forks_kind = 6

-- and what the program writes for a refusal
abbrev pub refused_kind : ℕ
refused_kind = 7

-- a number that the table in 'Records' has
unfoldable pub is_kind : ℕ → Bool
is_kind kind = leb 1 kind && leb kind 7

-- the oldest version
abbrev pub oldest_version : ℕ
oldest_version = 4

-- the first version whose stops have a blend
abbrev pub blend_since : ℕ
blend_since = 5

-- and the first whose stops have a dwell: 'Version 6 stops carry, after the blend, a 2-byte dwell' (M-102)
abbrev pub dwell_since : ℕ
dwell_since = 6

-- how many of a stop's later fields, blend and dwell, a version has
unfoldable pub later_fields : (version : ℕ) → ℕ
later_fields version = cond (leb blend_since version) (cond (leb dwell_since version) 2 1) 0

-- the widths of a stop's fields: x, y, z, speed; of blend and dwell those that the version has
unfoldable pub stop_fields : (version : ℕ) → List ℕ
stop_fields version = 4 ∷ 4 ∷ 4 ∷ 2 ∷ take (later_fields version) (2 ∷ 2 ∷ [])

-- the widths of the fields that a record's content begins with, by kind and version: path: version, k; stop; order: k;
-- stops: total; refused: number; the others none
unfoldable pub fields : (kind version : ℕ) → List ℕ
fields kind version =
    cond (eqb kind path_kind) (2 ∷ 2 ∷ [])
    (cond (eqb kind stop_kind) (stop_fields version)
    (cond (eqb kind order_kind) (2 ∷ [])
    (cond (eqb kind stops_kind) (8 ∷ []) (cond (eqb kind refused_kind) (2 ∷ []) []))))

-- 'kinds 5 and 6 add their part for n': 2 bytes for each stop; a bit for each fork, in whole bytes
unfoldable pub part_for : (kind n : ℕ) → ℕ
part_for kind n = cond (eqb kind stops_kind) (2 * n) (cond (eqb kind forks_kind) ((n + 7) / 8) 0)

-- the sum of widths
unfoldable pub sum : List ℕ → ℕ
sum [] = 0
sum (w ∷ ws) = w + sum ws

-- the length that a record says: 2 for the kind, the content's fields, and the part for n; 0 for a kind that the table lacks
unfoldable pub record_length : (kind version n : ℕ) → ℕ
record_length kind version n =
    cond (is_kind kind) (2 + sum (fields kind version) + part_for kind n) 0

-- a record's bytes
unfoldable pub record_bytes : (kind : ℕ) (content : List ℕ) → List ℕ
record_bytes kind content = bytes_of 2 (2 + length content) ++ bytes_of 2 kind ++ content

-- a record at the front of bytes: its content, and what comes after the record
pub record Taken : Type 0 where
  pub content : List ℕ
  pub rest : List ℕ

abbrev pub taken : (content rest : List ℕ) → Taken
taken content rest = record { content = content; rest = rest }

-- the length that the first two bytes say
unfoldable pub length_said : List ℕ → ℕ
length_said s = number_of (take 2 s)

-- the kind that the next two say
unfoldable pub kind_said : List ℕ → ℕ
kind_said s = number_of (take 2 (drop 2 s))

-- 'not the kind due here': no other kind of the table, and no unknown number, is the one due
unfoldable pub is_due : (due found : ℕ) → Bool
is_due due found = is_kind found && eqb due found

-- the record at the front of bytes: 'Each record: 4 bytes present (1), kind (3), length (2), bytes present (1)'
unfoldable pub take_record : (kind long : ℕ) (s : List ℕ) → Outcome Taken
take_record kind long s =
    need (leb 4 (length s)) truncated
    (need (is_due kind (kind_said s)) wrong_kind
    (need (eqb (length_said s) long) wrong_length
    (need (leb (2 + long) (length s)) truncated
    (gives (taken (take (long - 2) (drop 4 s)) (drop (2 + long) s))))))
