-- Exchanges of forks: the set that leads from one order to another, the groups of stops below forks, and blocks of places that are swapped.
pub mod Exchange
pub mod Group
pub mod Swap
