-- Laws of the crate's definitions.
pub mod SumFrom
pub mod Block
pub mod Travel
pub mod Between
pub mod Adds
pub mod InPlace
