-- The ten starred examples of document 01.
pub mod Example
pub mod Listing
