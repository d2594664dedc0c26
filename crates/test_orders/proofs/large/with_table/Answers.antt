-- `test_orders::large::with_table` is safe. The table's length is not counted out.
use Rattle.std.proofs.Common.{ℕ, sym}
use lib.ListN.{length-replicate}
use Rattle.test_orders.proofs.large.with_table.Goals as goal

pub slice_bounds-by_table-end : goal.slice_bounds-by_table-end
slice_bounds-by_table-end g c = sym (length-replicate {0} {A = ℕ} 1048576 0)
