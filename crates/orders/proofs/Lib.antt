-- Laws of the crate's definitions.
pub mod Numbers
pub mod Same
pub mod Allowed
pub mod Bits
pub mod Marks
pub mod Size
pub mod Filled
pub mod Shift
pub mod Lent
pub mod Calls
pub mod Way
pub mod RoundTrip
pub mod Inverted
pub mod Exchanged
