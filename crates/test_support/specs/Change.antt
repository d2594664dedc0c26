-- A buffer after changes that a number names, 16 bits each: a place, and the byte put there.
use Rattle.std.specs.Prelude.{ℕ, ◌/◌, ◌%◌, cond, List, eqb, set}

-- after one change; 0 changes nothing, and neither does a place past the end
abbrev pub changed_once : ℕ → List ℕ → List ℕ
changed_once change bytes = cond (eqb change 0) bytes (set bytes (change / 256 % 256) (change % 256))

-- after four changes, the one of the highest bits first
abbrev pub changed : ℕ → List ℕ → List ℕ
changed changes bytes =
    changed_once (changes % 65536)
    (changed_once (changes / 65536 % 65536)
    (changed_once (changes / 4294967296 % 65536)
    (changed_once (changes / 281474976710656 % 65536) bytes)))
