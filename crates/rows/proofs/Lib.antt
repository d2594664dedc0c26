-- Laws of rows.
--
-- The idea. By Theorem 7 stop i may stand in place p after stop j exactly if their exclusive or is at least r = 2^t and less than 2r, so the
-- candidates before i are the 2^t stops of the block beside i, and a block of stops holds the candidates of all its stops. What the best walk
-- to i costs follows from what the best walks to its candidates cost: a row of totals, one for each stop of the block, comes from the row before
-- (`next`), and two rows serve in turn. Up to the middle place each stop is its own pivot; from there on it has that of the candidate that was
-- chosen. In registers a way stands for a cell of a row (`Stands`): a total and a pivot, or any number from 2^63 on where no walk leads to the stop.
-- Weighing a candidate does to the number that is held what `keep` does to the cell (`turn-stands`), so when all are weighed it stands for the
-- next row's cell (`below_last`). Four stops go through three places so (`leaf-made`), or take their candidates in a loop (`columns-all`); a row is
-- made four stops at a time (`Made`), places follow one another (`Passes`), and the last row is that of the best walks over the block (`last_Line`).
--
-- Cells and ways, which know no list.
pub mod Blocks
pub mod Cells
pub mod Ways
pub mod Table
-- Rows in two lists.
pub mod Stores
pub mod Made
pub mod Columns
pub mod Leaf
pub mod Pair
-- Places one after another.
pub mod Along
pub mod Lines
pub mod Passes
-- What a pass is asked for.
pub mod Asked
