-- Laws of walks, over any graph.
pub mod Prefer
pub mod Walk
pub mod Best
pub mod Places
pub mod Halves
pub mod Segment
pub mod Rows
pub mod Numbers
pub mod Last
pub mod Brute
pub mod Raise
