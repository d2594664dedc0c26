-- The halves of a block swapped in place.
use Rattle.std.specs.Prelude.{List, ◌++◌, ℕ, ◌*◌, take, drop}

-- the block of 2 half places from a on
abbrev pub block_from : (a half : ℕ) → List ℕ → List ℕ
block_from a half o = take (2 * half) (drop a o)

-- its halves, of `half` places each, have changed places
unfoldable pub halves_swapped : (a half : ℕ) → List ℕ → List ℕ
halves_swapped a half o = take a o ++ ((drop half (block_from a half o) ++ take half (block_from a half o)) ++ drop (2 * half) (drop a o))
