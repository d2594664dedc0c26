-- The wanted list of filled stops, by plain enumeration of all allowed orders, and what is asked of a list and its total. `s i` says that
-- stop i is filled.
use Rattle.std.specs.Prelude.{◌≡◌, Bool, cond, List, [], ◌∷◌, ◌≢◌, ℕ, zero, suc, ◌*◌, ◌-◌, ◌^◌, ◌≤◌, length}
use Rattle.walks.specs.Places.{Earlier}
use Rattle.tree.specs.Neighbour.{in_place}
use Rattle.tree.specs.Order.{order_of}
use Rattle.tree.specs.Total.{total}
use Rattle.tree.specs.Wanted.{preferred}

-- the filled stops of a list
unfoldable pub keep_filled : (ℕ → Bool) → List ℕ → List ℕ
keep_filled s [] = []
keep_filled s (i ∷ o) = cond (s i) (i ∷ keep_filled s o) (keep_filled s o)

-- 'Allowed orders are as before, then empties are left out': the list that the set F of exchanged forks gives
abbrev pub list_of : ℕ → (ℕ → Bool) → ℕ → List ℕ
list_of k s F = keep_filled s (order_of k F)

-- the preferred one of two lists
abbrev pub better : (ℕ → ℕ → ℕ) → List ℕ → List ℕ → List ℕ
better t o u = cond (preferred (total t) o u) o u

-- the preferred one of the lists that the sets 0, 2, 4, .. 2 (m - 1) give. 'moves join neighbouring filled stops directly': a list's total is
-- the sum over its own neighbours. 'ties judged on the list from its end': `better` prefers the smaller stop at the first difference there
unfoldable pub best_list : ℕ → (ℕ → Bool) → (ℕ → ℕ → ℕ) → ℕ → List ℕ
best_list k s t zero = list_of k s 0
best_list k s t (suc m) = better t (list_of k s (2 * m)) (best_list k s t m)

-- 'The list of least total is wanted': the forks are 1 to n - 1, so the sets are the even numbers below 2^n
unfoldable pub wanted_list : ℕ → (ℕ → Bool) → (ℕ → ℕ → ℕ) → List ℕ
wanted_list k s t = best_list k s t (2 ^ (2 ^ k - 1))

-- what is asked of a list that is returned with a total c
pub record ShortestList (k : ℕ) (s : ℕ → Bool) (t : ℕ → ℕ → ℕ) (list : List ℕ) (c : ℕ) : Type 0 where
  -- some set of forks gives it
  pub forks : ℕ
  pub given : list_of k s forks ≡ list
  -- the total is the sum of its moves
  pub summed : c ≡ total t list
  -- no set of forks gives a smaller total
  pub least : (F : ℕ) → c ≤ total t (list_of k s F)
  -- of equal totals it has the smaller stop at the first difference read from the end
  pub first : (F : ℕ) → total t (list_of k s F) ≡ c → list_of k s F ≢ list → Earlier (length list) (in_place list) (in_place (list_of k s F))
