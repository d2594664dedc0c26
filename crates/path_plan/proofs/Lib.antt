-- Laws of the way from path bytes to the returned order.
pub mod Meaning
pub mod Claim
pub mod PathPlan
