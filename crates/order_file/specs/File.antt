-- 'An order file is 4, 5, 6, 3.' The bytes of a file, and the file that is written for an order.
use Rattle.std.specs.Prelude.{List, [], ◌∷◌, ◌++◌, ℕ, ◌+◌, ◌*◌}
use Rattle.records.specs.Field.{bytes_of}
use Rattle.records.specs.Record.{record_bytes, order_kind, stops_kind, forks_kind, end_kind}
use Rattle.tree.specs.Total.{total}
use Rattle.orders.specs.Allowed.{forks_of}
use Rattle.orders.specs.Bits.{byte_count, bit_string}

-- 'n stops of 2 bytes'
unfoldable pub stop_bytes : List ℕ → List ℕ
stop_bytes [] = []
stop_bytes (b ∷ o) = bytes_of 2 b ++ stop_bytes o

-- the four records: 'k 2 bytes'; 'total 8 bytes, n stops of 2 bytes'; the fork string; none
unfoldable pub head_bytes : (k : ℕ) → List ℕ
head_bytes k = record_bytes order_kind (bytes_of 2 k)

unfoldable pub stops_bytes : (total : ℕ) (order : List ℕ) → List ℕ
stops_bytes total order = record_bytes stops_kind (bytes_of 8 total ++ stop_bytes order)

unfoldable pub forks_bytes : (string : List ℕ) → List ℕ
forks_bytes string = record_bytes forks_kind string

unfoldable pub end_bytes : List ℕ
end_bytes = record_bytes end_kind []

-- the file of k, a total, an order and a fork string
unfoldable pub order_file : (k total : ℕ) (order string : List ℕ) → List ℕ
order_file k total order string = head_bytes k ++ stops_bytes total order ++ forks_bytes string ++ end_bytes

-- the file that is written for an allowed order, where t a b is the time from a to b: the total and the fork string are computed
unfoldable pub file_for : (k : ℕ) (t : ℕ → ℕ → ℕ) (order : List ℕ) → List ℕ
file_for k t order = order_file k (total t order) order (bit_string k (forks_of k order))

-- where the record of the stops begins, and in it the total and the first stop; then, by n, where the record of the forks and the end
-- record begin
abbrev pub stops_record : ℕ
stops_record = 6

abbrev pub total_place : ℕ
total_place = 10

abbrev pub stops_place : ℕ
stops_place = 18

abbrev pub forks_place : (n : ℕ) → ℕ
forks_place n = 18 + 2 * n

abbrev pub end_place : (n : ℕ) → ℕ
end_place n = forks_place n + 4 + byte_count n

-- the bytes of the file of n stops
abbrev pub file_size : (n : ℕ) → ℕ
file_size n = end_place n + 4
