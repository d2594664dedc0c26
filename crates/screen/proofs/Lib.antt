-- Laws of the crate's definitions.
pub mod Order
pub mod Testing
pub mod Making
pub mod Updating
pub mod Records
pub mod Screen
pub mod Calls
