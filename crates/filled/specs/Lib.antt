-- Trays some of whose stops are empty: the wanted list of filled stops, its forks, and the call that plans it; then what its method keeps.
pub mod Lists
pub mod Forks
pub mod Filled
pub mod Table
pub mod Moves
pub mod Row
pub mod Walk
