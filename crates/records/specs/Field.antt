-- Fields: 'All fields are little-endian; coordinates are two's complement.'
use Rattle.std.specs.Prelude.{Bool, true, cond, ◌&&◌, List, [], ◌∷◌, ◌++◌, ℕ, zero, suc, ◌+◌, ◌-◌, ◌*◌, ◌/◌, ◌%◌, ◌^◌, ltb, take, drop, get_or, ℤ, pos, negsuc}
use Rattle.base.specs.Lists.{tabulate}

-- the number that bytes spell, least byte first
unfoldable pub number_of : List ℕ → ℕ
number_of [] = 0
number_of (b ∷ s) = b + 256 * number_of s

-- the first bytes, so many: one that is not there counts as 0
abbrev pub first_bytes : (width : ℕ) (s : List ℕ) → List ℕ
first_bytes width s = tabulate width (λ i. get_or s i 0)

-- the bytes of a field of some width that holds a number, least byte first
unfoldable pub bytes_of : (width value : ℕ) → List ℕ
bytes_of zero x = []
bytes_of (suc w) x = x % 256 ∷ bytes_of w (x / 256)

-- the numbers of fields that stand one after the other, by their widths
unfoldable pub read_fields : (widths s : List ℕ) → List ℕ
read_fields [] s = []
read_fields (w ∷ ws) s = number_of (take w s) ∷ read_fields ws (drop w s)

-- the bytes of fields one after the other, by their widths: a number that is not there counts as 0, and one too many is left out
unfoldable pub write_fields : (widths values : List ℕ) → List ℕ
write_fields [] vs = []
write_fields (w ∷ ws) [] = bytes_of w 0 ++ write_fields ws []
write_fields (w ∷ ws) (v ∷ vs) = bytes_of w v ++ write_fields ws vs

-- every number of the list is a byte
unfoldable pub are_bytes : List ℕ → Bool
are_bytes [] = true
are_bytes (b ∷ s) = ltb b 256 && are_bytes s

-- two's complement of four bytes: a number below 2^31 means itself, one from there on means itself less 2^32
unfoldable pub signed : ℕ → ℤ
signed u = cond (ltb u (2 ^ 31)) (pos u) (negsuc (2 ^ 32 - 1 - u))

-- the number of four bytes that means a signed number
unfoldable pub unsigned : ℤ → ℕ
unsigned (pos n) = n
unsigned (negsuc n) = 2 ^ 32 - 1 - n
