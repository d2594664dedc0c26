-- 'Keep, beside an order, the inner travel of every fork's group: the sum of the moves between neighbouring places of that group.'
use Rattle.std.specs.Prelude.{cond, ◌&&◌, List, ℕ, zero, suc, ◌+◌, ◌-◌, ◌^◌}
use Rattle.base.specs.Lists.{tabulate}
use Rattle.tree.specs.Neighbour.{in_place}
use Rattle.groups.specs.Group.{in_group}

-- g a + g (a + 1) + .. + g (a + c - 1)
abbrev pub sum_from : (ℕ → ℕ) → ℕ → ℕ → ℕ
sum_from g a zero = 0
sum_from g a (suc c) = sum_from g a c + g (a + c)

-- the move from place q to the next counts in the group of v exactly if the stops in both are in it; t i j is the time from stop i to stop j
unfoldable pub move_within : (t : ℕ → ℕ → ℕ) (k : ℕ) (o : List ℕ) (v q : ℕ) → ℕ
move_within t k o v q = cond (in_group k v (in_place o q) && in_group k v (in_place o (suc q))) (t (in_place o q) (in_place o (suc q))) 0

-- 'the sum of the moves between neighbouring places of that group'
unfoldable pub inner_travel : (t : ℕ → ℕ → ℕ) (k : ℕ) (o : List ℕ) (v : ℕ) → ℕ
inner_travel t k o v = sum_from (move_within t k o v) 0 (2 ^ k - 1)

-- 'that of fork v in place v, and 0 in place 0'
unfoldable pub sum_at : (t : ℕ → ℕ → ℕ) (k : ℕ) (o : List ℕ) (v : ℕ) → ℕ
sum_at t k o zero = 0
sum_at t k o (suc v) = inner_travel t k o (suc v)

-- 'There are n 64-bit sums'
abbrev pub sums_of : (t : ℕ → ℕ → ℕ) (k : ℕ) (o : List ℕ) → List ℕ
sums_of t k o = tabulate (2 ^ k) (sum_at t k o)
