-- The travel time between two stops, the table of all of them, and both of path bytes.
pub mod Time
pub mod Rows
pub mod Columns
pub mod Table
pub mod InPath
pub mod Summing
