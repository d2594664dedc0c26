-- Laws of the crate's definitions.
pub mod Paste
pub mod Names
pub mod Keeping
pub mod Time
