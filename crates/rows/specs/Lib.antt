-- Costs by place, rows of best totals and pivots, and a pass over a block of places.
pub mod Costing
pub mod Source
pub mod Row
pub mod Way
pub mod Pass
