-- Laws of the crate's definitions.
pub mod Time
pub mod Nearest
pub mod Rows
pub mod Written
pub mod Columns
pub mod Size
pub mod InPath
pub mod Summing
pub mod Table
pub mod Entries
