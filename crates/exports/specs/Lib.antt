-- The exported calls: answers as signed numbers.
pub mod Exported
pub mod Values
