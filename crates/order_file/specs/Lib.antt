-- Order files: their bytes, what these say, and what the calls come to.
pub mod File
pub mod Reading
pub mod Write
pub mod Read
pub mod Local
