-- Orders and fork bits: which order is allowed, which set of forks gives it, what a fork string says, what an exchange is, and what each call comes to.
pub mod Same
pub mod Allowed
pub mod Bits
pub mod Lent
pub mod ForkBits
pub mod OrderOfBits
pub mod Exchange
pub mod OrderTotal
