-- Orders kept by name: names and their places, and what the calls come to.
pub mod Names
pub mod Calls
pub mod Time
