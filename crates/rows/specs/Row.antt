-- Rows: for each stop in a place the best total, and the stop that its best walk has in the middle place, its pivot.
use Rattle.std.specs.Prelude.{◌≡◌, Bool, true, false, cond, List, ℕ, zero, suc, ◌+◌, ◌*◌, ◌-◌, ◌≤◌, ◌<◌, length, get_or}
use Rattle.walks.specs.Best.{Found, none, at, scan, first, step}
use Rattle.walks.specs.Rows.{told}
use Rattle.rows.specs.Costing.{Costing, allowed, may_start, start_cost}

-- a number above every total: 'no walk' is any number from this one on
abbrev pub unreached : ℕ
unreached = 9223372036854775808

-- 'nothing held yet'
abbrev pub nothing : ℕ
nothing = 18446744073709551615

-- no total of p places is above this: each costs less than 2^33
abbrev pub most : ℕ → ℕ
most p = p * 8589934592

-- THE NEXT ROW: stop i in place p, from the row r of the place before. The least of the stops that it may follow, of equals the smallest;
-- its pivot is i itself where the place is early (up to the middle one), and past it that of the stop before
unfoldable pub next : Costing → ℕ → Bool → (ℕ → Found ℕ) → ℕ → Found ℕ
next C p early r i = told (λ q. cond early i q) (scan (λ j. step (allowed C p j i) (C.weight p j i) (λ q. q) (r j)) C.stops)

-- the row d places on: of the last of the places from `from` on
unfoldable pub along : Costing → Bool → ℕ → ℕ → (ℕ → Found ℕ) → ℕ → Found ℕ
along C early from zero r = r
along C early from (suc d) r = next C (from + d) early (along C early from d r)

-- the first row of the places from `left` on: each stop is its own pivot
abbrev pub first_row : Costing → ℕ → ℕ → ℕ → Found ℕ
first_row C before left i = first (may_start C before left i) (start_cost C before left i) i

-- the last row of 2 half places: those of the first half are early
abbrev pub last_row : Costing → ℕ → ℕ → (ℕ → Found ℕ) → ℕ → Found ℕ
last_row C left half r = along C false (left + half) half (along C true (left + 1) (half - 1) r)

-- the number v, and q beside it, stand for a cell whose cost is at most b
abbrev pub StandsFor : ℕ → ℕ → ℕ → Found ℕ → Type 0
StandsFor b v q none = unreached ≤ v
StandsFor b v q (at c x) = (v ≡ c) × (q ≡ x) × (c ≤ b)

-- they stand for stop i in the row r of the place before place p
pub record Stands (p : ℕ) (r : ℕ → Found ℕ) (i v q : ℕ) : Type 0 where
  pub cell : StandsFor (most p) v q (r i)
  pub low : v ≤ unreached + most p

-- the row at `off` of two lists holds the stops of a block
pub record Row (p : ℕ) (r : ℕ → Found ℕ) (off base size : ℕ) (totals pivots : List ℕ) : Type 0 where
  pub holds : (i : ℕ) → base ≤ i → i < base + size → Stands p r i (get_or totals (off + i) 0) (get_or pivots (off + i) 0)

-- it holds those of some row
pub record SomeRow (p off base size : ℕ) (totals pivots : List ℕ) : Type 0 where
  pub row : ℕ → Found ℕ
  pub there : Row p row off base size totals pivots

-- a list is as it was but for `size` places from `start` on
pub record Kept (start size : ℕ) (l l' : List ℕ) : Type 0 where
  pub long : length l' ≡ length l
  pub before : (j : ℕ) → j < start → get_or l' j 0 ≡ get_or l j 0
  pub after : (j : ℕ) → start + size ≤ j → get_or l' j 0 ≡ get_or l j 0

-- two rows of n
pub record TwoRows (n totals pivots : ℕ) : Type 0 where
  pub rows : n + n ≤ totals
  pub marks : n + n ≤ pivots
