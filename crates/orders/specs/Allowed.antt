-- Which order is allowed, and which set of forks gives it, by plain enumeration of all sets.
use Rattle.std.specs.Prelude.{Bool, true, false, cond, ◌&&◌, ◌||◌, List, [], ◌∷◌, ℕ, zero, suc, ◌*◌, ◌-◌, ◌^◌, ltb}
use Rattle.base.specs.Refusal.{no_such_stop, not_allowed}
use Rattle.base.specs.Outcome.{Outcome, gives, need}
use Rattle.tree.specs.Order.{order_of}
use Rattle.orders.specs.Same.{alike}

-- no stop of the list is 'a stop number n or more'
unfoldable pub stops_below : ℕ → List ℕ → Bool
stops_below n [] = true
stops_below n (b ∷ o) = ltb b n && stops_below n o

-- one of the sets 0, 2, .. 2 (m - 1) gives the order
unfoldable pub some_set : ℕ → List ℕ → ℕ → Bool
some_set k o zero = false
some_set k o (suc m) = alike (order_of k (2 * m)) o || some_set k o m

-- and that set; 0 where none does
unfoldable pub set_giving : ℕ → List ℕ → ℕ → ℕ
set_giving k o zero = 0
set_giving k o (suc m) = cond (alike (order_of k (2 * m)) o) (2 * m) (set_giving k o m)

-- how many sets there are: the forks are 1 to n - 1, so the sets are the even numbers below 2^n
abbrev pub set_count : ℕ → ℕ
set_count k = 2 ^ (2 ^ k - 1)

-- 'It is allowed exactly if some set of forks gives it'
unfoldable pub is_allowed : ℕ → List ℕ → Bool
is_allowed k o = some_set k o (set_count k)

-- the set of forks that gives an allowed order
unfoldable pub forks_of : ℕ → List ℕ → ℕ
forks_of k o = set_giving k o (set_count k)

-- an order of n stops, judged: 'a stop number n or more in an order' is 9, then 'an order not allowed' 10
unfoldable pub judge_order : ℕ → List ℕ → Outcome (List ℕ)
judge_order k o = need (stops_below (2 ^ k) o) no_such_stop (need (is_allowed k o) not_allowed (gives o))
