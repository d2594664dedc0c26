-- What a buffer holds after bytes were put at a place.
use Rattle.std.specs.Prelude.{cond, List, ◌++◌, ℕ, ◌+◌, leb, length, take, drop}

-- the bytes v stand from place `at` on, and the rest is as it was; where v does not fit whole, nothing is written
unfoldable pub put : (s : List ℕ) (at : ℕ) (v : List ℕ) → List ℕ
put s at v = cond (leb (at + length v) (length s)) (take at s ++ v ++ drop (at + length v) s) s
