-- Numbers as bytes.
use Rattle.std.specs.Prelude.{ℕ, ◌/◌, ◌%◌}
use mathlib.Core.List.{List, [], ◌∷◌}

-- a number of 16 bits, the low byte first
abbrev pub two_bytes : (number : ℕ) → List ℕ
two_bytes number = number % 256 ∷ number / 256 % 256 ∷ []
