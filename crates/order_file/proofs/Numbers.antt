-- An order file that is not accepted is refused by a number of the table.
use mathlib.Core.List.{List}
use Prim.Native.Nat.{ℕ, ◌^◌}
use native.Mathlib.Omega.{arith}
use lib.Dec.{eqb}
use lib.ListN.{length, take}
use Rattle.base.proofs.Numbered.{Numbered, given, need-numbered, then-numbered, giving-numbered}
use Rattle.records.specs.Field.{number_of}
use Rattle.records.specs.Record.{take_record, record_length, order_kind, stops_kind, forks_kind, end_kind}
use Rattle.records.proofs.Numbers.{record-numbered}
use Rattle.tree.specs.Total.{total}
use Rattle.orders.specs.Same.{alike}
use Rattle.orders.specs.Allowed.{forks_of, judge_order}
use Rattle.orders.specs.Bits.{bit_string}
use Rattle.orders.proofs.Numbers.{order-numbered}
use Rattle.order_file.specs.Reading.{any_version, read_records, judge_string, unsummed, judge_file}

records-numbered : (k : ℕ) (file : List ℕ) → Numbered (read_records k file)
unfolding read_records
records-numbered k file =
    then-numbered (take_record order_kind (record_length order_kind any_version 0) file) _ (record-numbered _ _ file) (λ head.
    need-numbered (eqb (number_of (take 2 head.content)) k) 5 _ (omega arith) (omega arith)
    (then-numbered (take_record stops_kind (record_length stops_kind any_version (2 ^ k)) head.rest) _ (record-numbered _ _ _) (λ stops.
    then-numbered (take_record forks_kind (record_length forks_kind any_version (2 ^ k)) stops.rest) _ (record-numbered _ _ _) (λ forks.
    then-numbered (take_record end_kind (record_length end_kind any_version 0) forks.rest) _ (record-numbered _ _ _) (λ end.
    need-numbered (eqb (length end.rest) 0) 7 _ (omega arith) (omega arith) (given _))))))

string-numbered : (k : ℕ) (order string : List ℕ) → Numbered (judge_string k order string)
unfolding judge_string
string-numbered k order string =
    then-numbered (judge_order k order) _ (order-numbered k order) (λ o. need-numbered (alike string (bit_string k (forks_of k o))) 12 _ (omega arith) (omega arith) (given o))

unsummed-numbered : (k : ℕ) (file : List ℕ) → Numbered (unsummed k file)
unfolding unsummed
unsummed-numbered k file =
    then-numbered (read_records k file) _ (records-numbered k file) (λ f. giving-numbered _ (judge_string k f.order f.string) (string-numbered k f.order f.string))

pub file-numbered : (k : ℕ) (t : ℕ → ℕ → ℕ) (file : List ℕ) → Numbered (judge_file k t file)
unfolding judge_file
file-numbered k t file =
    then-numbered (unsummed k file) _ (unsummed-numbered k file) (λ f. need-numbered (eqb f.total (total t f.order)) 11 _ (omega arith) (omega arith) (given f))
