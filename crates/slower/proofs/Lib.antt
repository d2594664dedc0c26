-- Laws of calls by tables that are slower, or raised, and of paths whose dwells are larger.
pub mod Calls
pub mod Paths
