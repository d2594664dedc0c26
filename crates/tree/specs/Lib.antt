-- Trees of stops: forks, places, orders, totals, and the order that is wanted.
pub mod Fork
pub mod Order
pub mod Neighbour
pub mod Block
pub mod Total
pub mod Graph
pub mod Wanted
pub mod Draws
pub mod Layers
pub mod Open
