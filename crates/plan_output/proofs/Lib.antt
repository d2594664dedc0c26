-- Laws of the program's output.
pub mod Claim
pub mod Longer
pub mod Written
