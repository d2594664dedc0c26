-- The program's output.
pub mod Output
