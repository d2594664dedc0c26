-- Stops drawn one after another from the bytes of a path.
pub mod Draws
