-- 'Forks are named by the tree, so a set always means the same groups': the group of a fork is the stops below it. In an allowed order they
-- fill a block of places (`group-places`). A stop i is a group of one, under the number 2^k + i that it has below its fork.
use Rattle.std.specs.Prelude.{Bool, cond, List, ℕ, zero, suc, ◌-◌, ◌^◌, leb, eqb}
use Rattle.tree.specs.Fork.{fork_above}
use Rattle.tree.specs.Neighbour.{in_place}

-- how many depths below v its stops lie, in a tree of 2^k stops: 0 of a stop
unfoldable pub height : (k v : ℕ) → ℕ
height zero v = 0
height (suc k) v = cond (leb (2 ^ suc k) v) 0 (suc (height k v))

-- how many stops are in the group of v
abbrev pub group_size : (k v : ℕ) → ℕ
group_size k v = 2 ^ height k v

-- and how many on each side of it, where it is a fork
abbrev pub half_size : (k v : ℕ) → ℕ
half_size k v = 2 ^ (height k v - 1)

-- stop i is in the group of v: 'The fork above stop i at depth h', at the depth of v, is v
abbrev pub in_group : (k v i : ℕ) → Bool
in_group k v i = eqb (fork_above k i (k - height k v)) v

-- the first of c places at which a test holds, c where there is none
unfoldable pub first_in : (ℕ → Bool) → ℕ → ℕ
first_in f zero = 0
first_in f (suc c) = cond (f 0) 0 (suc (first_in (λ p. f (suc p)) c))

-- the first place of the group of v in an order
unfoldable pub group_start : (k : ℕ) (o : List ℕ) (v : ℕ) → ℕ
group_start k o v = first_in (λ p. in_group k v (in_place o p)) (2 ^ k)
