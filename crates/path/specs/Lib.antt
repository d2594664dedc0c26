-- Paths: what their bytes mean, what they are written as, and what the stops drawn from them are.
pub mod Path
pub mod Bytes
pub mod Reading
pub mod Written
pub mod Draw
pub mod Local
