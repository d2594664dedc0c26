-- The controller's three jobs: what each gives, and what it leaves in the lent output.
pub mod Limit
pub mod Plan
pub mod Check
pub mod Rewrite
pub mod Local
