-- What the private functions promise each other.
use Rattle.std.specs.Prelude.{Bool, cond, not, ◌||◌, List, ℕ, leb, eqb, take}
use Rattle.base.specs.Refusal.{wrong_version, wrong_k}
use Rattle.base.specs.Outcome.{Outcome, gives, need}
use Rattle.base.specs.Size.{max_k}
use Rattle.records.specs.Field.{number_of}
use Rattle.path.specs.Path.{known_version}

-- a 2-byte field at the front of bytes that stops have from version `since` on: 0 in an older version
abbrev pub field_since : (since version : ℕ) (s : List ℕ) → ℕ
field_since since version s = cond (leb since version) (number_of (take 2 s)) 0

-- such a field is lost where it is not 0 and the version is older
abbrev pub is_lost : (since version value : ℕ) → Bool
is_lost since version value = not (leb since version || eqb value 0)

-- 4 and 5 of a version and k
abbrev pub judge_form : (version k : ℕ) → Outcome Unit
judge_form version k =
    need (known_version version) wrong_version
    (need (leb k max_k) wrong_k
    (gives tt))
