-- Answers as signed numbers: 'The result is the count of bytes written, 0 for a good check, or the refusal number made negative.'
use Rattle.std.specs.Prelude.{cond, ℕ, ltb, ℤ, pos, neg_ℤ}
use Rattle.base.specs.Outcome.{Outcome, gives, refuses}

-- a number, or the most where it is more
unfoldable pub at_most : (most : ℕ) → ℕ → ℕ
at_most most v = cond (ltb v most) v most

-- the largest signed 64-bit number
abbrev pub largest : ℕ
largest = 9223372036854775807

-- a value; one that is too large for the result counts as the largest
unfoldable pub given : ℕ → ℤ
given v = pos (at_most largest v)

-- a refusal's number, made negative
abbrev pub negative : ℕ → ℤ
negative number = neg_ℤ (pos number)

-- an outcome as a signed number: its value as a number, or the refusal
unfoldable pub signed : {A : Type 0} → (number : A → ℕ) → Outcome A → ℤ
signed number (gives a) = given (number a)
signed number (refuses n) = negative n

-- a value that says nothing but that the call was done: 0
abbrev pub nothing : Unit {0} → ℕ
nothing u = 0

-- a value that is a number: a count of bytes, or a total
abbrev pub itself : ℕ → ℕ
itself n = n
