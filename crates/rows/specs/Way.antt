-- Ways: the best total of a stop and its pivot, in registers, with the count of the weighings that led there.
use Rattle.std.specs.Prelude.{◌≡◌, Bool, true, cond, List, ℕ, ◌+◌, ◌≤◌, ◌<◌, get_or}
use Rattle.base.specs.Buffer.{Unsigned, at_entry, at_exit}
use Rattle.walks.specs.Best.{Found, scan, step}
use Rattle.walks.specs.Rows.{turn}
use Rattle.tree.specs.Neighbour.{trail, may_follow}
use Rattle.tree.specs.Block.{beside_of}
use Rattle.rows.specs.declared.way.Way.{Way}
use Rattle.rows.specs.declared.way.Four.{Four}
use Rattle.rows.specs.Costing.{Costing}
use Rattle.rows.specs.Row.{unreached, most, next, StandsFor, Stands, Row, Kept}

-- stop i in place p, if it comes from a stop below j; whether it fits the place is not asked yet
unfoldable pub chosen : Costing → ℕ → (ℕ → Found ℕ) → ℕ → ℕ → Found ℕ
chosen C p r i j = scan (λ s. step (may_follow p s i) (C.weight p s i) (λ q. q) (r s)) j

-- the way w is held for stop i in place p once its candidates below j are weighed
pub record BestBelow (C : Costing) (p : ℕ) (r : ℕ → Found ℕ) (j i : ℕ) (w : Way) : Type 0 where
  pub cell : StandsFor (most (p + 1)) w.total w.pivot (chosen C p r i j)
  pub low : beside_of i (trail p) < j → w.total ≤ unreached + most (p + 1)

-- the number c is what the move from one stop to another costs
pub record Priced (weight : ℕ → ℕ → ℕ) (from to c : ℕ) : Type 0 where
  pub cost : c ≡ weight from to
  pub small : c < 8589934592

-- the moves to four stops, each from the other of its pair
pub record CrossedMoves (weight : ℕ → ℕ → ℕ) (i : ℕ) (w : Four ℕ) : Type 0 where
  pub a : Priced weight (i + 1) i w.a
  pub b : Priced weight i (i + 1) w.b
  pub c : Priced weight (i + 3) (i + 2) w.c
  pub d : Priced weight (i + 2) (i + 3) w.d

-- to the first two from a stop of the other two, and to these from a stop of the first two
pub record PairedMoves (weight : ℕ → ℕ → ℕ) (i low high : ℕ) (w : Four ℕ) : Type 0 where
  pub a : Priced weight high i w.a
  pub b : Priced weight high (i + 1) w.b
  pub c : Priced weight low (i + 2) w.c
  pub d : Priced weight low (i + 3) w.d

-- to all four from one stop
pub record FourMoves (weight : ℕ → ℕ → ℕ) (from to : ℕ) (w : Four ℕ) : Type 0 where
  pub a : Priced weight from to w.a
  pub b : Priced weight from (to + 1) w.b
  pub c : Priced weight from (to + 2) w.c
  pub d : Priced weight from (to + 3) w.d

-- the way `before` and a move from its stop at cost c are weighed: what was held, and what is
pub record Weighing (before : Way) (c : ℕ) (held r : Way) : Type 0 where
  pub turned : (r.total, r.pivot) ≡ turn true (before.total + c) before.pivot (held.total, held.pivot)
  pub counted : r.count ≡ held.count + 1

-- stop `from`, which the way `before` leads to, is weighed for stop `to`: what was held, and what is
pub record Weighed (weight : ℕ → ℕ → ℕ) (from : ℕ) (before : Way) (to : ℕ) (held r : Way) : Type 0 where
  pub turned : (r.total, r.pivot) ≡ turn true (before.total + weight from to) before.pivot (held.total, held.pivot)
  pub small : weight from to < 8589934592
  pub counted : r.count ≡ held.count + 1

-- what is held for stop i in place p is settled: 'no walk' where the stop does not fit, and in an early place the stop is its own pivot
pub record Settled (C : Costing) (p : ℕ) (early : Bool) (i : ℕ) (held r : Way) : Type 0 where
  pub total : r.total ≡ cond (C.fits p i) held.total unreached
  pub pivot : r.pivot ≡ cond early i held.pivot
  pub counted : r.count ≡ held.count

-- the way w leads to stop i in the row r of the place before place p
abbrev pub Leads : ℕ → (ℕ → Found ℕ) → ℕ → Way → Type 0
Leads p r i w = Stands p r i w.total w.pivot

-- stop `from`, which the way `before` leads to in the row r, is the only one that stop `to` may follow in place p, at cost c
pub record OnlyBefore (C : Costing) (p : ℕ) (r : ℕ → Found ℕ) (from : ℕ) (before : Way) (to c : ℕ) : Type 0 where
  pub inside : p < 1024
  pub zeros : trail p ≡ 0
  pub near : beside_of to 0 ≡ from
  pub below : from < C.stops
  pub priced : Priced (C.weight p) from to c
  pub leads : Leads p r from before

-- the stops f and f + 1, which x and y lead to, are the only two, at costs c and d
pub record TwoBefore (C : Costing) (p : ℕ) (r : ℕ → Found ℕ) (f : ℕ) (x y : Way) (to c d : ℕ) : Type 0 where
  pub inside : p < 1024
  pub zeros : trail p ≡ 1
  pub near : beside_of to 1 ≡ f
  pub below : f + 1 < C.stops
  pub priced : Priced (C.weight p) f to c
  pub priced₂ : Priced (C.weight p) (f + 1) to d
  pub leads : Leads p r f x
  pub leads₂ : Leads p r (f + 1) y

-- a way that can be weighed: no sum wraps
pub record Light (w : Way) : Type 0 where
  pub total : w.total ≤ unreached + most 1024
  pub count : w.count < 4294967296

-- what was read for stop i from place j of two lists; in an early place the stop is its own pivot, and none is read
pub record Loaded (early : Bool) (totals pivots : List ℕ) (j i : ℕ) (w : Way) : Type 0 where
  pub total : w.total ≡ get_or totals j 0
  pub pivot : w.pivot ≡ cond early i (get_or pivots j 0)
  pub counted : w.count ≡ 0

-- place j of two lists holds a way
pub record Written (totals pivots : List ℕ) (j : ℕ) (w : Way) : Type 0 where
  pub total : get_or totals j 0 ≡ w.total
  pub pivot : get_or pivots j 0 ≡ w.pivot

-- what holds of each of four ways
pub record EachFour (P : Way → Type 0) (w : Four Way) : Type 0 where
  pub a : P w.a
  pub b : P w.b
  pub c : P w.c
  pub d : P w.d

-- what holds of the ways to the stops i to i + 3
pub record InFour (P : ℕ → Way → Type 0) (i : ℕ) (w : Four Way) : Type 0 where
  pub a : P i w.a
  pub b : P (i + 1) w.b
  pub c : P (i + 2) w.c
  pub d : P (i + 3) w.d

-- what is done with each of them
pub record ByFour (R : ℕ → Way → Way → Type 0) (i : ℕ) (w r : Four Way) : Type 0 where
  pub a : R i w.a r.a
  pub b : R (i + 1) w.b r.b
  pub c : R (i + 2) w.c r.c
  pub d : R (i + 3) w.d r.d

-- a way was weighed d times more
abbrev pub Grown : ℕ → ℕ → Way → Way → Type 0
Grown d i w r = r.count ≡ w.count + d

-- three places on, from place p on: `first` says whether the first is early, `rest` whether the others are
abbrev pub three_on : Costing → Bool → Bool → ℕ → (ℕ → Found ℕ) → ℕ → Found ℕ
three_on C first rest p r = next C (p + 2) rest (next C (p + 1) rest (next C p first r))

-- a function that answers r has made the row at `off'` for a block of stops from the row at `off`, with so many weighings: where the old row
-- was that of the place before p, the new one is that of the place before p'; nothing else was written
pub record RowMade (p p' : ℕ) (f : (ℕ → Found ℕ) → ℕ → Found ℕ) (off start part off' base size count : ℕ) (B P B' P' : List ℕ) (r : ℕ) : Type 0 where
  pub counted : r ≡ count
  pub turned : (row : ℕ → Found ℕ) → Row p row off start part B P → Row p' (f row) off' base size B' P'
  pub totals_kept : Kept (off' + base) size B B'
  pub pivots_kept : Kept (off' + base) size P P'

-- the same of several rows, of which the last is left, and both rows may be written to; nothing beyond them was
pub record RowsMade (n p p' : ℕ) (f : (ℕ → Found ℕ) → ℕ → Found ℕ) (off off' base size count : ℕ) (B P B' P' : List ℕ) (r : ℕ) : Type 0 where
  pub counted : r ≡ count
  pub turned : (row : ℕ → Found ℕ) → Row p row off base size B P → Row p' (f row) off' base size B' P'
  pub totals_kept : Kept 0 (n + n) B B'
  pub pivots_kept : Kept 0 (n + n) P P'

-- the same of a function's parameters
abbrev pub MakesRow : (p p' : ℕ) → ((ℕ → Found ℕ) → ℕ → Found ℕ) → (off start part off' base size count : ℕ) → Unsigned → Unsigned → ℕ → Type 0
MakesRow p p' f off start part off' base size count totals pivots r =
    RowMade p p' f off start part off' base size count (at_entry totals) (at_entry pivots) (at_exit totals) (at_exit pivots) r

abbrev pub MakesRows : (n p p' : ℕ) → ((ℕ → Found ℕ) → ℕ → Found ℕ) → (off off' base size count : ℕ) → Unsigned → Unsigned → ℕ → Type 0
MakesRows n p p' f off off' base size count totals pivots r = RowsMade n p p' f off off' base size count (at_entry totals) (at_entry pivots) (at_exit totals) (at_exit pivots) r
