-- The total of an order by a table.
use Rattle.std.specs.Prelude.{List, ℕ, ◌^◌, length}
use Rattle.base.specs.Outcome.{Outcome, giving}
use Rattle.tree.specs.Total.{entry, total}
use Rattle.orders.specs.Lent.{lent_order, table_fits}

-- the sum of a lent order's moves: 5, 8, 9, 10
unfoldable pub order_total : (k : ℕ) (order table : List ℕ) → Outcome ℕ
order_total k order table = giving (total (entry (2 ^ k) table)) (lent_order k order (table_fits k (length table)))
