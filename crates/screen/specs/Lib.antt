-- The set-up screen's records: what its calls come to, and what the private functions ask and promise.
pub mod Times
pub mod Records
pub mod Screen
pub mod Local
