-- Numbers 'in decimal'.
use Rattle.std.specs.Prelude.{cond, List, [], ◌∷◌, ◌++◌, ℕ, zero, suc, ◌+◌, ◌/◌, ◌%◌, ltb}

-- the byte of a digit: '0' is byte 48
abbrev pub digit : ℕ → ℕ
digit d = 48 + d

-- the digits of a number, the last one last; of more than `most` digits the first are left out
unfoldable pub digits : (most n : ℕ) → List ℕ
digits zero n = []
digits (suc most) n = cond (ltb n 10) (digit n ∷ []) (digits most (n / 10) ++ digit (n % 10) ∷ [])

-- a number in decimal: no number n has more than n + 1 digits
unfoldable pub decimal : ℕ → List ℕ
decimal n = digits (suc n) n
