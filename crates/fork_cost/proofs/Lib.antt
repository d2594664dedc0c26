-- Laws of a fork's cost. The idea: the returned order is planned with no fork held, and the opposite one with the fork held in the state that it has not. Both come from one method, so both are
-- the wanted ones (`plan-left`); the opposite one is another order and costs no less, so the reason is one of two, and where the totals are equal the rule for equals decides at
-- the last place where the two part (`cost-true`).
--
-- What is planned, and what is told of it.
pub mod Both
pub mod Compared
-- The call.
pub mod Judging
-- What is told is true.
pub mod Truth
pub mod Calls
