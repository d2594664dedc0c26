-- From path bytes to the returned order: demand 3, the run of three calls that it speaks of, and one call for a path.
pub mod Claim
pub mod Calls
pub mod PathPlan
