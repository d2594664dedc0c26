-- Laws of the planner.
--
-- The idea. An allowed order is a walk through the places: by Theorem 7 which stop may follow which is decided place by place. A pass over a block
-- of places makes rows of best totals, in which from the middle place on each stop carries the stop that its best walk has in the middle, its
-- pivot (crate `rows`). When the last row is made, the pivot of the block's last stop is fixed in the middle place (`middle-fixed`); the best walk
-- to the last stop is the best walk to the pivot and then the best walk from it, so both halves are blocks again whose last places hold stops that
-- can be reached (`first_found`, `second-found`), and when they are solved the block is (`solved-join`). The last stop of all is the least of the last row
-- over all places (`ends-fixed`). So the order, read from its end back, is the best walk through all places (`finished`): for any costs by place. The
-- rule for equals needs no comparison of orders: candidates are weighed in increasing number, and a later one is kept only if it is cheaper, so
-- the best walk has the smaller stop at the first difference, read from its end back. By a table the best walk is the wanted order (`table-plan`).
--
-- Numbers and buffers.
pub mod Sizes
pub mod Stores
pub mod Least
pub mod Weighings
-- The method for any costs.
pub mod Halving
pub mod Smallest
pub mod Split
pub mod Ends
-- The call, by a table.
pub mod Judged
pub mod Written
pub mod Places
pub mod ByTable
-- What holds of calls where places cost extra.
pub mod PlacesCalls
-- A fork that is held.
pub mod HeldForks
pub mod HeldJudged
-- Tours.
pub mod Tours
pub mod TourCalls
-- What k alone foretells.
pub mod Sums
