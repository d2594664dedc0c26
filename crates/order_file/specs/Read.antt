-- Reading an order file into lent buffers.
use Rattle.std.specs.Prelude.{◌≡◌, List, ℕ, ◌^◌, leb, length, Result}
use Rattle.base.specs.declared.Refusal.{Refusal}
use Rattle.base.specs.Refusal.{wrong_k, wrong_size}
use Rattle.base.specs.Outcome.{Outcome, need, giving, said, after}
use Rattle.base.specs.Buffer.{Unsigned, SharedUnsigned, at_entry, at_exit, contents}
use Rattle.base.specs.Size.{max_k}
use Rattle.tree.specs.Total.{entry}
use Rattle.orders.specs.Lent.{order_fits, bits_fit, table_fits}
use Rattle.order_file.specs.Reading.{Contents, unsummed, judge_file}

-- a file read by k alone, its order to be stored in a buffer of so many places: the total is not tested
unfoldable pub read_unsummed : (k : ℕ) (file : List ℕ) (places : ℕ) → Outcome Contents
read_unsummed k file places =
    need (leb k max_k) wrong_k
    (need (order_fits k places) wrong_size
    (unsummed k file))

-- a file read by k and a table, its order and its fork string to be stored
unfoldable pub read_file : (k : ℕ) (table file : List ℕ) (places room : ℕ) → Outcome Contents
read_file k table file places room =
    need (leb k max_k) wrong_k
    (need (table_fits k (length table)) wrong_size
    (need (order_fits k places) wrong_size
    (need (bits_fit k room) wrong_size
    (judge_file k (entry (2 ^ k) table) file))))

-- the promise of reading without a table: the answer, the total of the file, and the lent places before and after
pub record FileIsUnsummed (k : ℕ) (file order order' : List ℕ) (r : Result ℕ Refusal) : Type 0 where
  pub said : said r ≡ giving (λ f. f.total) (read_unsummed k file (length order))
  pub left : order' ≡ after (read_unsummed k file (length order)) (λ f. f.order) order

abbrev pub ReadsUnsummed : ℕ → SharedUnsigned → Unsigned → Result ℕ Refusal → Type 0
ReadsUnsummed k file order r = FileIsUnsummed k (contents file) (at_entry order) (at_exit order) r

-- and with one: the answer, and the lent places and bytes
pub record FileIsRead (k : ℕ) (table file order order' bits bits' : List ℕ) (r : Result ℕ Refusal) : Type 0 where
  pub said : said r ≡ giving (λ f. f.total) (read_file k table file (length order) (length bits))
  pub order_left : order' ≡ after (read_file k table file (length order) (length bits)) (λ f. f.order) order
  pub bits_left : bits' ≡ after (read_file k table file (length order) (length bits)) (λ f. f.string) bits

abbrev pub ReadsFile : ℕ → SharedUnsigned → SharedUnsigned → Unsigned → Unsigned → Result ℕ Refusal → Type 0
ReadsFile k table file order bits r = FileIsRead k (contents table) (contents file) (at_entry order) (at_exit order) (at_entry bits) (at_exit bits) r
