-- What the test programs' library says of lists and text.
pub mod Bytes
pub mod Change
pub mod Count
pub mod Fifty
pub mod Sum
pub mod Text
