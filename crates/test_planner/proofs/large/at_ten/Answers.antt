-- `test_planner::large::at_ten` is safe. The table's length is not counted out.
use Rattle.std.proofs.Common.{ℕ, sym}
use lib.ListN.{length-replicate}
use Rattle.test_planner.proofs.large.at_ten.Goals as goal

pub slice_bounds-planted-end : goal.slice_bounds-planted-end
slice_bounds-planted-end g c = sym (length-replicate {0} {A = ℕ} 1048576 0)
