-- Laws of fields, of bytes put into a buffer, and of records.
pub mod FieldLaws
pub mod Versions
pub mod LengthLaws
pub mod PutLaws
pub mod RecordLaws
pub mod Numbers
pub mod ByteLaws
mod Table
