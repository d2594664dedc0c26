-- What a text of lines says: the numbers of each line. The laws state by it what was printed, so that they speak of the bytes alone.
use Rattle.std.specs.Prelude.{cond, List, [], ◌∷◌, ◌++◌, ℕ, ◌+◌, ◌*◌, ◌-◌, eqb}
use Rattle.all_orders_output.specs.Text.{space, line_end}

-- from within a line: `before` are its numbers so far, and n is the number whose digits are being read. A space ends a number, byte 10 a number
-- and the line; any other byte is a digit
unfoldable pub lines_from : (before : List ℕ) (n : ℕ) (text : List ℕ) → List (List ℕ)
lines_from before n [] = []
lines_from before n (b ∷ text) =
    cond (eqb b line_end) ((before ++ n ∷ []) ∷ lines_from [] 0 text)
    (cond (eqb b space) (lines_from (before ++ n ∷ []) 0 text)
    (lines_from before (10 * n + (b - 48)) text))

-- the numbers of each line of a text
abbrev pub lines_in : (text : List ℕ) → List (List ℕ)
lines_in text = lines_from [] 0 text
