-- What the bytes of an order file say, and how that is judged: 'Order file: the path's k, lent lengths, all records, 7, then 9, 10, 12,
-- 11.'
use Rattle.std.specs.Prelude.{List, ℕ, ◌*◌, ◌^◌, eqb, length, take, drop}
use Rattle.base.specs.Lists.{tabulate}
use Rattle.base.specs.Refusal.{wrong_k, trailing_bytes, wrong_forks, wrong_total}
use Rattle.base.specs.Outcome.{Outcome, gives, need, and_then, giving}
use Rattle.records.specs.Field.{number_of}
use Rattle.records.specs.Record.{take_record, record_length, order_kind, stops_kind, forks_kind, end_kind}
use Rattle.tree.specs.Total.{total}
use Rattle.orders.specs.Same.{alike}
use Rattle.orders.specs.Allowed.{forks_of, judge_order}
use Rattle.orders.specs.Bits.{bit_string}

-- the records of an order file have one length in every version
abbrev pub any_version : ℕ
any_version = 5

-- what a file says: the total, the stops in the places 0 to n - 1, and the fork string
pub record Contents : Type 0 where
  pub total : ℕ
  pub order : List ℕ
  pub string : List ℕ

abbrev pub contents : (total : ℕ) (order string : List ℕ) → Contents
contents total order string = record { total = total; order = order; string = string }

-- n stops of 2 bytes; a byte that is not there counts as 0
unfoldable pub stops_in : (n : ℕ) (s : List ℕ) → List ℕ
stops_in n s = tabulate n (λ p. number_of (take 2 (drop (2 * p) s)))

-- 'all records, 7': what a file says, given the path's k; the file's own is to be that one (5)
unfoldable pub read_records : (k : ℕ) (file : List ℕ) → Outcome Contents
read_records k file =
    and_then (take_record order_kind (record_length order_kind any_version 0) file) (λ head.
    need (eqb (number_of (take 2 head.content)) k) wrong_k
    (and_then (take_record stops_kind (record_length stops_kind any_version (2 ^ k)) head.rest) (λ stops.
    and_then (take_record forks_kind (record_length forks_kind any_version (2 ^ k)) stops.rest) (λ forks.
    and_then (take_record end_kind (record_length end_kind any_version 0) forks.rest) (λ end.
    need (eqb (length end.rest) 0) trailing_bytes
    (gives (contents (number_of (take 8 stops.content)) (stops_in (2 ^ k) (drop 8 stops.content)) forks.content)))))))

-- '9, 10, 12': an order, and the fork string beside it
unfoldable pub judge_string : (k : ℕ) (order string : List ℕ) → Outcome (List ℕ)
judge_string k order string = and_then (judge_order k order) (λ o. need (alike string (bit_string k (forks_of k o))) wrong_forks (gives o))

-- a file, judged without its total
unfoldable pub unsummed : (k : ℕ) (file : List ℕ) → Outcome Contents
unsummed k file = and_then (read_records k file) (λ f. giving (λ o. f) (judge_string k f.order f.string))

-- and with it (11), where t a b is the time from a to b
unfoldable pub judge_file : (k : ℕ) (t : ℕ → ℕ → ℕ) (file : List ℕ) → Outcome Contents
judge_file k t file = and_then (unsummed k file) (λ f. need (eqb f.total (total t f.order)) wrong_total (gives f))
