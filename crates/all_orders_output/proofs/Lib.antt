-- Laws of the text of all orders and of the program's output.
pub mod Decimal
pub mod Texts
pub mod Sizes
pub mod ReadBack
pub mod Once
pub mod Smallest
pub mod Listing
pub mod Printing
pub mod Longer
