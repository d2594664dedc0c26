-- `test_path::large::table` is safe. The table's length is not counted out.
use Rattle.std.proofs.Common.{ℕ, sym}
use lib.ListN.{length-replicate}
use Rattle.test_path.proofs.large.table.Goals as goal

pub slice_bounds-first_mut-end : goal.slice_bounds-first_mut-end
slice_bounds-first_mut-end g c = sym (length-replicate {0} {A = ℕ} 1048577 77)
