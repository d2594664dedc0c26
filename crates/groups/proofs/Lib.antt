-- Laws of the crate's definitions.
pub mod Xor
pub mod Exchange
pub mod Height
pub mod Subtree
pub mod Start
pub mod Swap
pub mod Sides
pub mod Calls
