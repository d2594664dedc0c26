-- Accepted calls that are compared, what is claimed of two of them, and paths with larger dwells.
pub mod Accepted
pub mod Growth
pub mod Dwells
