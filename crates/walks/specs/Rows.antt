-- What a program keeps of the best walks: a row with a cost and a pivot for each stop, with numbers above all costs for 'no walk'.
use Rattle.std.specs.Prelude.{◌≡◌, Bool, true, false, cond, ℕ, ◌≤◌, ◌<◌, zero, suc, ltb, leb}
use Rattle.walks.specs.Best.{Found, none, at, scan, first, step}
use Rattle.walks.specs.Walk.{Graph}

-- the same cost, and something else told
unfoldable pub told : {A B : Type 0} → (A → B) → Found A → Found B
told g none = none
told g (at c a) = at c (g a)

-- a row of costs alone
unfoldable pub costs : Graph → ℕ → ℕ → Found (Unit {0})
costs G zero i = first (G.may i) (G.start i) tt
costs G (suc n) i = scan (λ j. step (G.ok n j i) (G.weight n j i) (λ a. a) (costs G n j)) G.bound

-- A ROW AS A PROGRAM HAS IT: for stop i in place p the least cost, and the pivot: i itself up to the middle place m, and past
-- it what the stop before has
unfoldable pub line : Graph → ℕ → ℕ → ℕ → Found ℕ
line G m zero i = first (G.may i) (G.start i) i
line G m (suc p) i =
    told (λ q. cond (leb (suc p) m) i q) (scan (λ j. step (G.ok p j i) (G.weight p j i) (λ q. q) (line G m p j)) G.bound)

-- the last stop, and the cost of the plan, from the last row
unfoldable pub last : Graph → ℕ → Found ℕ
last G n = scan (λ i. step true 0 (λ a. i) (costs G n i)) G.bound

-- one turn of the loop: the stop may be left for this one at cost x, and q is told of it
unfoldable pub turn : Bool → ℕ → ℕ → ℕ × ℕ → ℕ × ℕ
turn false x q s = s
turn true x q s = cond (ltb x s.0) (x, q) s

-- the loop over the stops 0, .. k - 1: what may be left, at what cost, and what is told
unfoldable pub loop : ℕ → (ℕ → Bool) → (ℕ → ℕ) → (ℕ → ℕ) → ℕ → ℕ × ℕ
loop inf a x q zero = (inf, 0)
loop inf a x q (suc k) = turn (a k) (x k) (q k) (loop inf a x q k)

-- the number v, and q beside it, stand for a cell: 'no walk' is any number from inf on
abbrev pub Codes : ℕ → ℕ → ℕ → Found ℕ → Type 0
Codes inf v q none = inf ≤ v
Codes inf v q (at c r) = (v ≡ c) × (q ≡ r) × (c < inf)
