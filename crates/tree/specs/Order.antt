-- Places and orders.
use Rattle.std.specs.Prelude.{◌≡◌, List, [], ◌∷◌, ◌++◌, ℕ, zero, suc, ◌+◌, ◌*◌, ◌-◌, ◌%◌, ◌^◌}
use Rattle.base.specs.Lists.{tabulate}
use Rattle.tree.specs.Fork.{bit, side, stop_of, fork_above}

-- 'A set of exchanged forks puts stop i in the place whose bit k−1−h is that bit of i, inverted exactly if its fork at depth h is exchanged'
abbrev pub place_bit : ℕ → ℕ → ℕ → ℕ → ℕ
place_bit k F i h = (bit i (k - 1 - h) + bit F (fork_above k i h)) % 2

-- the lowest d bits of that place, bit d - 1 first, at depth k - d
abbrev pub place_bits : ℕ → ℕ → ℕ → ℕ → ℕ
place_bits k F i zero = 0
place_bits k F i (suc d) = place_bit k F i (k - suc d) * 2 ^ d + place_bits k F i d

-- the place of stop i under the set F
abbrev pub place_of : ℕ → ℕ → ℕ → ℕ
place_of k F i = place_bits k F i k

-- the way down d depths from fork v to place p: each bit of p, the highest first, takes its side, the other one where the fork is exchanged
abbrev pub down : ℕ → ℕ → ℕ → ℕ → ℕ
down F p zero v = v
down F p (suc d) v = down F p d (side v ((bit p d + bit F v) % 2))

-- the stop in place p under the set F; the laws `place_of-stop_in` and `stop_in-place_of` say that it is the one whose place is p
abbrev pub stop_in : ℕ → ℕ → ℕ → ℕ
stop_in k F p = stop_of k (down F p k 1)

-- 'An order lists the stop in each place 0 to n−1'
abbrev pub order_of : ℕ → ℕ → List ℕ
order_of k F = tabulate (2 ^ k) (stop_in k F)

-- 'It is allowed exactly if some set of forks gives it'
abbrev pub Allowed : ℕ → List ℕ → Type 0
Allowed k o = (F : ℕ) × (order_of k F ≡ o)

-- the stops below fork v, m depths down, each with n added: those of one side and then those of the other, exchanged where v is.
-- The law `order_of-sides` says that an order is this list from the root: 'The two sides of any fork may be exchanged'
unfoldable pub below : ℕ → ℕ → ℕ → List ℕ
below F zero v = v ∷ []
below F (suc m) v = below F m (side v (bit F v)) ++ below F m (side v (1 - bit F v))
