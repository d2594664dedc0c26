-- Laws of costs.
pub mod Held
pub mod Other
pub mod Placed
pub mod Tour
pub mod Ends
pub mod Slower
pub mod Raised
pub mod Bounds
