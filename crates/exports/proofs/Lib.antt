-- Laws of the exported calls.
mod Exports
pub mod Small
