-- Text as a list of bytes: what stands between separators, and the numbers that digits say.
use Rattle.std.specs.Prelude.{ℕ, zero, suc, ◌+◌, ◌-◌, ◌*◌, ◌%◌, ◌^◌, cond, leb, eqb}
use mathlib.Core.List.{List, [], ◌∷◌}
use Rattle.std.specs.List.{fold}

-- the bytes before the first separator
unfoldable pub up_to : (separator : ℕ) (text : List ℕ) → List ℕ
up_to separator [] = []
up_to separator (b ∷ text) = cond (eqb b separator) [] (b ∷ up_to separator text)

-- and those after it
unfoldable pub past : (separator : ℕ) (text : List ℕ) → List ℕ
past separator [] = []
past separator (b ∷ text) = cond (eqb b separator) text (past separator text)

-- field i, counted from 0, of those that separators part
unfoldable pub field_of : (separator i : ℕ) (text : List ℕ) → List ℕ
field_of separator zero text = up_to separator text
field_of separator (suc i) text = field_of separator i (past separator text)

-- word i of a line 'name: word word ..', the first of which is word 1
abbrev pub word_of : (i : ℕ) (line : List ℕ) → List ℕ
word_of i line = field_of 32 i (field_of 58 1 line)

-- what a byte says as a digit: 48 to 57 say 0 to 9, and a to f, 97 to 102, say 10 to 15; what is below the digits, as a sign, says 0
abbrev pub digit_of : (b : ℕ) → ℕ
digit_of b = cond (leb b 57) (b - 48) ((b % 16 + 9) % 16)

-- a number with one digit more, where a low line between digits says nothing; from 2^60 on the highest bits are lost
abbrev pub with_digit : (base number b : ℕ) → ℕ
with_digit base number b = cond (eqb b 95) number (number % 2 ^ 60 * base + digit_of b)

-- the number that digits say in a base
abbrev pub number_of : (base : ℕ) (digits : List ℕ) → ℕ
number_of base digits = fold (with_digit base) 0 digits
