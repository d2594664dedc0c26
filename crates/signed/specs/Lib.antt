-- Answers as signed numbers.
pub mod Result
