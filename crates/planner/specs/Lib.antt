-- The planner: halving the places, how many candidates are weighed, and what planning answers.
pub mod Method
pub mod Weighings
pub mod Plan
pub mod Places
pub mod Tour
pub mod HeldFork
