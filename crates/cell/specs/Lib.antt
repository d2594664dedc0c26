-- The controller's calls: what each returns, and what it leaves in the lent output.
pub mod Cell
