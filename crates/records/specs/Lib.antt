-- Fields, records and the bytes of a buffer that a field is written to.
pub mod Field
pub mod Put
pub mod Record
pub mod Kind
