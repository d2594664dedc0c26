-- Walks through layered graphs: what the best walk is.
pub mod Prefer
pub mod Walk
pub mod Best
pub mod Places
pub mod Halves
pub mod Rows
pub mod Brute
pub mod Raise
