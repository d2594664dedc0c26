-- A sum in which each place of a list counts.
use Rattle.std.specs.Prelude.{ℕ, ℤ, pos, negsuc, ◌+◌, ◌*◌, ◌%◌, List}
use Rattle.std.specs.List.{fold}

-- the sum with one number more
abbrev pub one_more : (sum number : ℕ) → ℕ
one_more sum number = (sum % 4294967291 * 31 + number % 4294967291 + 1) % 4294967291

-- the sum of a list whose elements count as `weight` says
abbrev pub sum_of : {X : Type 0} (weight : X → ℕ) (list : List X) → ℕ
sum_of weight list = fold (λ sum x. one_more sum (weight x)) 0 list

-- twice a number from 0 on, and for one below 0 twice what it lies below -1, and 1
abbrev pub folded : (number : ℤ) → ℕ
folded (pos n) = n * 2
folded (negsuc n) = n * 2 + 1
