-- The inner travel of every fork's group, and an exchange of one fork in an order and in its sums.
pub mod Travel
pub mod Between
pub mod Swaps
