-- The starred examples hold.
pub mod Sound
pub mod Examples
