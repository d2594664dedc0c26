-- How often a value stands in a list.
use Rattle.std.specs.Prelude.{ℕ, Bool, List, count_by}

-- how often `value` stands in a list, by what its type calls equal
abbrev pub count_of : {X : Type 0} (eq : X → X → Bool) (value : X) (list : List X) → ℕ
count_of eq value list = count_by (λ x. eq x value) list
