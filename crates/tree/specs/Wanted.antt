-- The wanted order, by plain enumeration, and demand 3 about an order and its cost: for any cost of an order and any test of which sets of
-- forks count. A set is a number F, and fork v is its bit v. Document 01 means the open total and all sets (specs/Open).
use Rattle.std.specs.Prelude.{◌≡◌, ◌≢◌, Bool, true, cond, List, [], ℕ, zero, suc, ◌*◌, ◌-◌, ◌^◌, ◌≤◌, length}
use Rattle.walks.specs.Prefer.{beforeb}
use Rattle.walks.specs.Best.{Found, none, at}
use Rattle.walks.specs.Places.{stops_to, Earlier}
use Rattle.tree.specs.Neighbour.{in_place}
use Rattle.tree.specs.Order.{order_of}

-- an order read from the last place back
abbrev pub backward : List ℕ → List ℕ
backward o = stops_to (in_place o) (length o)

-- o is preferred to u: 'the least total'; 'Of equal totals it is the one with the smaller stop at the first difference, read from the last place back'
abbrev pub preferred : (List ℕ → ℕ) → List ℕ → List ℕ → Bool
preferred cost o u = beforeb (cost o) (backward o) (cost u) (backward u)

-- the preferred one of an order and what was found before, with its cost
unfoldable pub better : (List ℕ → ℕ) → List ℕ → Found (List ℕ) → Found (List ℕ)
better cost o none = at (cost o) o
better cost o (at c u) = cond (preferred cost o u) (at (cost o) o) (at c u)

-- the preferred one of the orders that the counted ones among the sets 0, 2, 4, .. 2 (m - 1) give; none, where none of them counts
unfoldable pub best_of : ℕ → (List ℕ → ℕ) → (ℕ → Bool) → ℕ → Found (List ℕ)
best_of k cost ok zero = none
best_of k cost ok (suc m) = let r = best_of k cost ok m in cond (ok (2 * m)) (better cost (order_of k (2 * m)) r) r

-- of 'all 2^(n−1) allowed orders': the forks are 1 to n - 1, so the sets are the even numbers below 2^n
unfoldable pub found : ℕ → (List ℕ → ℕ) → (ℕ → Bool) → Found (List ℕ)
found k cost ok = best_of k cost ok (2 ^ (2 ^ k - 1))

-- the order in what was found
unfoldable pub order_in : Found (List ℕ) → List ℕ
order_in none = []
order_in (at c o) = o

-- THE WANTED ORDER: 'The wanted order has the least total'
unfoldable pub wanted : ℕ → (List ℕ → ℕ) → (ℕ → Bool) → List ℕ
wanted k cost ok = order_in (found k cost ok)

-- every set counts
abbrev pub every : ℕ → Bool
every F = true

-- whether a set counts is settled by its forks: sets that give one order count both or neither
abbrev pub Settled : ℕ → (ℕ → Bool) → Type 0
Settled k ok = (F G : ℕ) → order_of k F ≡ order_of k G → ok F ≡ ok G

-- Demand 3 about an order o that is returned with the cost c
pub record Shortest (k : ℕ) (cost : List ℕ → ℕ) (ok : ℕ → Bool) (o : List ℕ) (c : ℕ) : Type 0 where
  -- 'the returned order is allowed': some counted set of forks gives it
  pub forks : ℕ
  pub counted : ok forks ≡ true
  pub given : order_of k forks ≡ o
  -- 'its reported total is its moves' sum': the cost of the order
  pub costs : c ≡ cost o
  -- 'no set of forks gives a smaller total', of those that count
  pub least : (F : ℕ) → ok F ≡ true → c ≤ cost (order_of k F)
  -- 'of equal totals the returned order has the smaller stop at the first difference read from the last place back'
  pub first : (F : ℕ) → ok F ≡ true → cost (order_of k F) ≡ c → order_of k F ≢ o → Earlier (2 ^ k) (in_place o) (in_place (order_of k F))
