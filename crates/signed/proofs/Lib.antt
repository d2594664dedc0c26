-- Laws of answers as signed numbers.
pub mod AtMost
pub mod Result
