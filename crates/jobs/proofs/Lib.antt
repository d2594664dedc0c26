-- Laws of the jobs.
pub mod Limits
pub mod Heads
pub mod Planning
pub mod Checking
pub mod Rewriting
pub mod Numbers
pub mod Together
