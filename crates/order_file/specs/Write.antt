-- Writing the file of an order.
use Rattle.std.specs.Prelude.{◌≡◌, ◌&&◌, List, ℕ, ◌^◌, leb, length, Result}
use Rattle.base.specs.declared.Refusal.{Refusal}
use Rattle.base.specs.Outcome.{Outcome, giving, said, after}
use Rattle.base.specs.Buffer.{Unsigned, SharedUnsigned, at_entry, at_exit, contents}
use Rattle.tree.specs.Total.{entry}
use Rattle.orders.specs.Lent.{lent_order, table_fits}
use Rattle.order_file.specs.File.{file_for, file_size}

-- the file for a lent order by its table, to be written to a buffer of `room` bytes: 5, 8, 9, 10
unfoldable pub write_file : (k : ℕ) (order table : List ℕ) (room : ℕ) → Outcome (List ℕ)
write_file k order table room =
    giving (file_for k (entry (2 ^ k) table)) (lent_order k order (table_fits k (length table) && leb (file_size (2 ^ k)) room))

-- the promise: the answer, the count of bytes written, and the lent bytes before and after
pub record FileIsWritten (k : ℕ) (order table before afterwards : List ℕ) (r : Result ℕ Refusal) : Type 0 where
  pub said : said r ≡ giving length (write_file k order table (length before))
  pub left : afterwards ≡ after (write_file k order table (length before)) (λ file. file) before

-- the same of the call's parameters
abbrev pub WritesFile : ℕ → SharedUnsigned → SharedUnsigned → Unsigned → Result ℕ Refusal → Type 0
WritesFile k order table out r = FileIsWritten k (contents order) (contents table) (at_entry out) (at_exit out) r
