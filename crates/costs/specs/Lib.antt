-- Costs of orders and tests of sets of forks, and their graphs.
pub mod Costs
pub mod Graphs
pub mod Ends
