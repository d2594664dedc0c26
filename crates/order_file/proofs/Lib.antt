-- Laws of the crate's definitions.
pub mod Numbers
pub mod Bytes
pub mod Stages
pub mod Sizes
pub mod Calls
pub mod Putting
pub mod RoundTrip
