-- The rows in the work space: what is known of those that are made, what a store keeps, and the cells of two neighbouring stops.
use mathlib.Core.Path.{◌≡◌, refl, sym, ap, subst, ◌∙◌}
use mathlib.Core.Bool.{Bool, true, false, cond, ◌&&◌}
use mathlib.Core.List.{List, [], ◌++◌}
use Prim.Native.Nat.{ℕ, zero, suc, ◌+◌, ◌*◌, ◌-◌, ◌%◌, ◌^◌, ◌≤◌, ◌<◌}
use native.Mathlib.Nat.{pow-succ'}
use native.Mathlib.Omega.{arith}
use lib.Dec.{leb}
use lib.ListN.{length, get_or, set, take, drop, length-append, length-drop, get_or-append}
use lib.Pow.{pow_mono, pow_pos}
use lib.Seq.{get_or-set_same, get_or-set_other, length-take-le}
use Rattle.base.proofs.Bools.{both}
use Rattle.tree.specs.Block.{beside_of}
use Rattle.tree.specs.Neighbour.{trail, reach}
use Rattle.walks.specs.Best.{at, first}
use Rattle.walks.proofs.Prefer.{Trich, trich, below, equal, above}
use Rattle.filled.specs.declared.tray.Tray.{Tray}
use Rattle.filled.specs.Row.{unreached, total_in, in_set, filled_of, times_of, cell_of, least_in, standing, through, from_group, IsRow, RowIsMade, RowsMade, CellsMade}
use Rattle.filled.specs.Table.{beside_filled}
use Rattle.filled.proofs.Groups.{Grouped, grouped}
use Rattle.filled.proofs.Loops.{row-square}
use Rattle.filled.proofs.Numbers.{loop-same, total-le, stop-beside}
use Rattle.filled.proofs.Pairs.{pair-crossed, pair-kept, pair-weighed, pair-skipped}
use Rattle.filled.proofs.Recurrence.{table-zero}

module _ (tray : Tray) where
  abbrev n : ℕ
  n = tray.n

  -- there are few stops
  pub tray-few : n ≤ 64
  tray-few = omega (arith, tray.stops, pow_mono {i = tray.k} {j = 6} tray.small)

  -- more than one are an even number
  pub tray-even : (p : ℕ) → 0 < p → p < n → n % 2 ≡ 0
  tray-even p a b = go tray.k tray.stops
    where
      go : (k : ℕ) → n ≡ 2 ^ k → n % 2 ≡ 0
      go zero e = absurd (omega arith)
      go (suc k) e = omega (arith, pow-succ' 2 k)

  -- there is one
  pub tray-some : 0 < n
  tray-some = omega (arith, tray.stops, pow_pos tray.k)

  -- times have 32 bits
  pub tray-short : (a b : ℕ) → times_of tray a b < 2 ^ 32
  tray-short a b = tray.times (a * n + b)

  -- a place, and a stop, of the tree
  pub tray-below : (a : ℕ) → a < n → a < 2 ^ tray.k
  tray-below a b = rw tray.stops at b

  -- a row that is made has no number above `unreached`
  pub made-row : (row : List ℕ) (q : ℕ) → RowIsMade tray row q → q < n → IsRow tray row
  made-row row q r b = record {
    long = r.long;
    low = λ j c. rw (r.made j c) (total-le tray.k (filled_of tray) (times_of tray) tray.small tray-short q j (tray-below q b));
  }

  -- the row of a place is within the work space
  pub row_room : (work : List ℕ) (q : ℕ) → length work ≡ n * n → q < n → q * n + n ≤ length work
  row_room work q e b = rw e (row-square n q b)

  -- ---- the cells of place p, from the row before

  module _ (p : ℕ) (row : List ℕ) (before : RowIsMade tray row (p - 1)) (pos : 0 < p) (place : p < n) where
    abbrev s : ℕ → Bool
    s = filled_of tray

    abbrev t : ℕ → ℕ → ℕ
    t = times_of tray

    -- the candidates of a group in the row before
    made-least : (a first size : ℕ) → first + size ≤ n → least_in (through tray row a) first size ≡ least_in (λ j. total_in (cell_of tray (p - 1) j) + t j a) first size
    made-least a first size b = loop-same (leb first) (leb first) (through tray row a) (λ j. total_in (cell_of tray (p - 1) j) + t j a) (first + size)
        (λ j c. refl) (λ j c. ap (λ x. x + t j a) (before.made j (omega arith)))

    -- the stop before a stop that has a filled group beside it
    pub group-stop : (a to total stop c : ℕ) (l : List ℕ) → a < n → (total, stop) ≡ from_group tray row p a to → to ≡ a → beside_filled tray.k (filled_of tray) p a ≡ true
        → cell_of tray p a ≡ at c l → stop ≡ get_or l 0 0
    unfolding from_group
    group-stop a to total stop c l b e f g d =
        let r : Grouped tray.k n p a = grouped tray.k n p a tray.small tray.stops pos place b in
        let q : (total, stop) ≡ least_in (λ j. total_in (cell_of tray (p - 1) j) + t j a) (beside_of a (trail p)) (2 ^ trail p)
        = e ∙ rw f (made-least a (beside_of a (trail p)) (2 ^ trail p) r.room) in
        ap (λ (z : ℕ × ℕ). z.1) q ∙ stop-beside tray.k s t tray.small tray-short p a c l pos (tray-below p place) (tray-below a b) g d

    -- two neighbouring stops
    module _ (i : ℕ) (stop : i + 1 < n) (even : i % 2 ≡ 0) where
      -- the same of the tree's numbers
      in_place : p < 2 ^ tray.k
      in_place = tray-below p place

      in_tree : i + 1 < 2 ^ tray.k
      in_tree = tray-below (i + 1) stop

      -- in an odd place, both filled
      pub cells-crossed : (x y : ℕ) → x ≡ through tray row i (i + 1) → y ≡ through tray row (i + 1) i → p % 2 ≡ 1 → (filled_of tray i && filled_of tray (i + 1)) ≡ true
          → (x ≡ total_in (cell_of tray p i)) × (y ≡ total_in (cell_of tray p (i + 1)))
      cells-crossed x y u v o f =
          let b = both (s i) (s (i + 1)) f in
          let c = pair-crossed tray.k s t tray.small tray-short p i pos in_place in_tree even o b.0 b.1 in (
            u ∙ ap (λ z. z + t (i + 1) i) (before.made (i + 1) stop) ∙ sym c.0,
            v ∙ ap (λ z. z + t i (i + 1)) (before.made i (omega arith)) ∙ sym c.1,
          )

      -- the numbers that stand in an earlier row
      stand : (q : ℕ) (row' : List ℕ) (x y : ℕ) → RowIsMade tray row' q → x ≡ standing row' i → y ≡ standing row' (i + 1)
          → (x ≡ total_in (cell_of tray q i)) × (y ≡ total_in (cell_of tray q (i + 1)))
      stand q row' x y r u v = (u ∙ r.made i (omega arith), v ∙ r.made (i + 1) stop)

      -- not both filled
      pub cells-kept : (x y : ℕ) → x ≡ standing row i → y ≡ standing row (i + 1) → p % 2 ≡ 1 → (filled_of tray i && filled_of tray (i + 1)) ≡ false
          → (x ≡ total_in (cell_of tray p i)) × (y ≡ total_in (cell_of tray p (i + 1)))
      cells-kept x y u v o f =
          let c = pair-kept tray.k s t tray.small tray-short p i pos in_place in_tree even o f in
          let d = stand (p - 1) row x y before u v in
          (d.0 ∙ sym c.0, d.1 ∙ sym c.1)

      -- in an even place, with a filled group beside
      pub cells-weighed : (x y : ℕ) → x ≡ cond (filled_of tray i) (from_group tray row p i i).0 unreached → y ≡ cond (filled_of tray (i + 1)) (from_group tray row p i (i + 1)).0 unreached
          → (p % 2 ≡ 1 → ⊥) → beside_filled tray.k (filled_of tray) p i ≡ true → (x ≡ total_in (cell_of tray p i)) × (y ≡ total_in (cell_of tray p (i + 1)))
      unfolding from_group
      cells-weighed x y u v e f =
          let g : Grouped tray.k n p i = grouped tray.k n p i tray.small tray.stops pos place (omega arith) in
          let c = pair-weighed tray.k s t tray.small tray-short p i pos in_place in_tree even (omega arith) f in (
            u ∙ rw (made-least i (beside_of i (trail p)) (2 ^ trail p) g.room) c.0,
            v ∙ rw (made-least (i + 1) (beside_of i (trail p)) (2 ^ trail p) g.room) c.1,
          )

      -- and with an empty one
      pub cells-skipped : (x y r : ℕ) (row' : List ℕ) → RowIsMade tray row' (p - r) → x ≡ standing row' i → y ≡ standing row' (i + 1) → r ≡ reach p → (p % 2 ≡ 1 → ⊥)
          → beside_filled tray.k (filled_of tray) p i ≡ false → (x ≡ total_in (cell_of tray p i)) × (y ≡ total_in (cell_of tray p (i + 1)))
      cells-skipped x y r row' m u v d e f =
          let c = pair-skipped tray.k s t tray.small tray-short p i pos in_place in_tree even (omega arith) f in
          let b = stand (p - reach p) row' x y (rw d at m) u v in
          (b.0 ∙ sym c.0, b.1 ∙ sym c.1)

-- ---- stores

module _ (tray : Tray) (work : List ℕ) (p : ℕ) where
  module _ (i v : ℕ) (b : i < tray.n) (here : ℕ) (e : here ≡ p * tray.n + i) where
    -- a store in row p makes one cell more
    pub cells_store : here < length work → CellsMade tray work p i → v ≡ total_in (cell_of tray p i) → CellsMade tray (set work here v) p (i + 1)
    cells_store l c f = record { made = λ j x. rw e (go j x (trich j i)) }
      where
        go : (j : ℕ) → j < i + 1 → Trich j i → get_or (set work (p * tray.n + i) v) (p * tray.n + j) 0 ≡ total_in (cell_of tray p j)
        go j x (below y) = get_or-set_other work (p * tray.n + i) (p * tray.n + j) v 0 (λ z. absurd (omega arith)) ∙ c.made j y
        go j x (equal y) = rw y (get_or-set_same work (p * tray.n + i) v 0 (rw e at l) ∙ f)
        go j x (above y) = absurd (omega arith)

-- fewer rows
pub rows-fewer : (tray : Tray) (work : List ℕ) (p q : ℕ) → RowsMade tray work p → q ≤ p → RowsMade tray work q
rows-fewer tray work p q r b = record { rows = r.rows; made = λ x i c. r.made x i (omega arith) }

-- ---- the first row

pub first_cell : (tray : Tray) (i : ℕ) → cond (filled_of tray i) 0 unreached ≡ total_in (cell_of tray 0 i)
unfolding total_in first
first_cell tray i = rw (table-zero tray.k (filled_of tray) (times_of tray) i) (go (in_set tray.filled i))
  where
    go : (b : Bool) → cond b 0 unreached ≡ total_in (first b 0 [])
    go true = refl
    go false = refl

-- the row at the front of the work space
pub first-rows : (tray : Tray) (row work : List ℕ) (i : ℕ) → length work ≡ tray.n * tray.n → length row ≡ length (take tray.n work) → length (take tray.n work) ≤ i → CellsMade tray row 0 i
    → RowsMade tray (row ++ drop tray.n work) 1
first-rows tray row work i e f b c =
    let some : 0 < tray.n = tray-some tray in
    let room : 0 * tray.n + tray.n ≤ length work = row_room tray work 0 e some in
    let long : length row ≡ tray.n = f ∙ length-take-le tray.n work (omega arith) in record {
      rows = omega (arith, length-append row (drop tray.n work), length-drop tray.n work, long);
      made = λ q j x y.
          let z : 0 ≡ q = omega arith in
          subst (λ a. get_or (row ++ drop tray.n work) (a * tray.n + j) 0 ≡ total_in (cell_of tray a j)) z
          (get_or-append row (drop tray.n work) 0 (0 * tray.n + j) (omega arith) ∙ c.made j (omega arith));
    }
