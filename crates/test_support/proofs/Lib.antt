-- Laws of text and of signed numbers.
mod Fields
mod Folded
