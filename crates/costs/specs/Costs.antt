-- Costs of orders and tests of sets of forks, as document 02 asks for them. t a b is the table's entry from a to b.
use Rattle.std.specs.Prelude.{◌≡◌, Bool, cond, List, ◌≢◌, ℕ, zero, suc, pred, ◌+◌, ◌^◌, ◌≤◌, ◌<◌, eqb, leb, length}
use Rattle.tree.specs.Fork.{bit}
use Rattle.tree.specs.Neighbour.{in_place}
use Rattle.tree.specs.Order.{order_of}
use Rattle.tree.specs.Total.{total}

-- M-101: 'allowed orders with that fork in the opposite state': the sets that hold fork v in state s, 1 for exchanged
abbrev pub held : ℕ → ℕ → ℕ → Bool
held v s F = eqb (bit F v) s

-- M-101: 'the fork's state in the returned order': some set that gives the order o has fork v in state s
abbrev pub InState : ℕ → List ℕ → ℕ → ℕ → Type 0
InState k o v s = (F : ℕ) × (order_of k F ≡ o) × (bit F v ≡ s)

-- M-107: 'row stop, column place': the entries of the stops in the first m places, each for its place
abbrev pub places_to : (ℕ → ℕ → ℕ) → List ℕ → ℕ → ℕ
places_to x o zero = 0
places_to x o (suc m) = places_to x o m + x (in_place o m) m

-- M-107: 'A stop's entry for its place is added to the total, place 0 included'
abbrev pub placed_total : (ℕ → ℕ → ℕ) → (ℕ → ℕ → ℕ) → List ℕ → ℕ
placed_total t x o = total t o + places_to x o (length o)

-- M-104: 'its total has one more move, last to first .. for n = 1 it is 0'
abbrev pub closed_total : (ℕ → ℕ → ℕ) → List ℕ → ℕ
closed_total t o = total t o + cond (leb (length o) 1) 0 (t (in_place o (pred (length o))) (in_place o 0))

-- M-106: 'the same amount is added to all entries off the diagonal': they are a more in u than in t
abbrev pub Slower : ℕ → ℕ → (ℕ → ℕ → ℕ) → (ℕ → ℕ → ℕ) → Type 0
Slower k a t u = (i j : ℕ) → i < 2 ^ k → j < 2 ^ k → i ≢ j → u i j ≡ t i j + a

-- M-106: 'raising any entries': none off the diagonal is smaller in u than in t
abbrev pub Raised : ℕ → (ℕ → ℕ → ℕ) → (ℕ → ℕ → ℕ) → Type 0
Raised k t u = (i j : ℕ) → i < 2 ^ k → j < 2 ^ k → i ≢ j → t i j ≤ u i j
