-- All orders of a small path as text: decimal numbers, lines, the program's output, and what its lines say read back.
pub mod Decimal
pub mod Text
pub mod Output
pub mod ReadBack
pub mod Local
