-- The sum of a fork from those of its two sides and the move between their blocks.
use Rattle.std.specs.Prelude.{cond, List, ℕ, ◌+◌, ◌-◌, ltb, get_or}
use Rattle.tree.specs.Fork.{side}
use Rattle.tree.specs.Neighbour.{in_place}
use Rattle.groups.specs.Group.{half_size, group_start}

-- the first place of the second half of a fork's block: the move into it leads from one side of the fork to the other
abbrev pub between : (k : ℕ) (o : List ℕ) (v : ℕ) → ℕ
between k o v = group_start k o v + half_size k v

-- the move into place p
abbrev pub move_into : (t : ℕ → ℕ → ℕ) (o : List ℕ) (p : ℕ) → ℕ
move_into t o p = t (in_place o (p - 1)) (in_place o p)

-- the sum of a side w among those of n stops: a stop has none
unfoldable pub side_sum : (n : ℕ) (sums : List ℕ) (w : ℕ) → ℕ
side_sum n sums w = cond (ltb w n) (get_or sums w 0) 0

-- what fork v's sum is by those of its sides, with the move x between them
abbrev pub sum_by : (n : ℕ) (sums : List ℕ) (v x : ℕ) → ℕ
sum_by n sums v x = side_sum n sums (side v 0) + side_sum n sums (side v 1) + x
