-- The forks of a list as a program reads them off its moves: 'The lowest fork above both is exchanged exactly if bit t of the stop in p is 0'. The
-- stops of a move differ in bit t and in none above it, so bit t of the second is 0 exactly if it is the smaller.
use Rattle.std.specs.Prelude.{cond, List, [], ◌∷◌, ℕ, ◌-◌, ◌^◌, ltb}
use Rattle.std.specs.Int.Bits.{bit_or, bit_xor}
use Rattle.std.specs.Int.Count.{count_leading_zeros}
use Rattle.filled.specs.Forks.{above}

-- how many bits it takes to write a number below 2^k
abbrev pub width : ℕ → ℕ → ℕ
width k x = k - count_leading_zeros k x

-- the set of the lowest fork above the stops a and b, if the move from a to b says that it is exchanged, and the empty set if not
unfoldable pub move_forks : ℕ → ℕ → ℕ → ℕ
move_forks k a b = cond (ltb b a) (2 ^ above k (width k (bit_xor a b)) b) 0

-- what the last move of a list says that is read from its end
unfoldable pub last_forks : ℕ → ℕ → List ℕ → ℕ
last_forks k b [] = 0
last_forks k b (a ∷ l) = move_forks k a b

-- what all moves say
unfoldable pub moves_forks : ℕ → List ℕ → ℕ
moves_forks k [] = 0
moves_forks k (b ∷ l) = bit_or (moves_forks k l) (last_forks k b l)
