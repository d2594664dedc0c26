-- A starred example: what it says, and a test that computes whether it is so.
use Rattle.std.specs.Prelude.{◌≡◌, Bool, true, not, ◌&&◌, List, [], ◌∷◌, ℕ, ◌+◌, ◌^◌, eqb}
use Rattle.stop.specs.declared.Stop.{Stop}
use Rattle.times.specs.Time.{distance, time}
use Rattle.times.specs.Table.{entry_of}
use Rattle.tree.specs.Order.{order_of, Allowed}
use Rattle.tree.specs.Total.{entry, total}
use Rattle.tree.specs.Open.{wanted, Shortest}
use Rattle.orders.specs.Same.{alike}
use Rattle.orders.specs.Allowed.{is_allowed}

-- one example
pub data Example : Type 0 where
  -- by a table of 2^k rows: the wanted order and its total
  planned : (k : ℕ) (table order : List ℕ) (sum : ℕ) → Example
  -- by the travel times of stops: the wanted order and its total, the unturned order's total, and the exchanged forks
  planned_for : (k : ℕ) (stops : List Stop) (order : List ℕ) (sum unturned : ℕ) (forks : List ℕ) → Example
  -- an order that is not allowed
  barred : (k : ℕ) (order : List ℕ) → Example
  -- a move: D and its time
  timed : (from to : Stop) (d ms : ℕ) → Example

-- the set of these forks, as a number
unfoldable pub fork_set : List ℕ → ℕ
fork_set [] = 0
fork_set (v ∷ vs) = 2 ^ v + fork_set vs

-- what an example says: demand 3 of an order and its total; that no set of forks gives an order; D and the time of a move
abbrev pub Says : Example → Type 0
Says (planned k table order sum) = Shortest k (entry (2 ^ k) table) order sum
Says (planned_for k stops order sum unturned forks) =
    Shortest k (entry_of stops) order sum × (total (entry_of stops) (order_of k 0) ≡ unturned) × (order_of k (fork_set forks) ≡ order)
Says (barred k order) = Allowed k order → ⊥
Says (timed from to d ms) = (distance from to ≡ d) × (time from to ≡ ms)

-- whether an order and a total are those that are wanted
unfoldable pub is_wanted : ℕ → (ℕ → ℕ → ℕ) → List ℕ → ℕ → Bool
is_wanted k t order sum = alike (wanted k t) order && eqb (total t (wanted k t)) sum

-- whether an example is so, by plain enumeration
unfoldable pub holds : Example → Bool
holds (planned k table order sum) = is_wanted k (entry (2 ^ k) table) order sum
holds (planned_for k stops order sum unturned forks) =
    is_wanted k (entry_of stops) order sum && eqb (total (entry_of stops) (order_of k 0)) unturned && alike (order_of k (fork_set forks)) order
holds (barred k order) = not (is_allowed k order)
holds (timed from to d ms) = eqb (distance from to) d && eqb (time from to) ms

-- whether all of a list are so
unfoldable pub all_hold : List Example → Bool
all_hold [] = true
all_hold (e ∷ es) = holds e && all_hold es

-- an answer that must not pass for the wanted one: an order and a total
pub record Wrong : Type 0 where
  pub order : List ℕ
  pub sum : ℕ

-- whether every one of these answers is turned down for stops
unfoldable pub all_turned_down : ℕ → List Stop → List Wrong → Bool
all_turned_down k stops [] = true
all_turned_down k stops (w ∷ ws) = not (is_wanted k (entry_of stops) w.order w.sum) && all_turned_down k stops ws
