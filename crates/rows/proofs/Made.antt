-- A row that is made four stops at a time from another row: what holds on the way.
use mathlib.Core.Path.{◌≡◌, ap, ◌∙◌}
use mathlib.Core.List.{List}
use mathlib.Core.Logic.{◌⊎◌, inl}
use Prim.Native.Nat.{ℕ, ◌+◌, ◌*◌, ◌-◌, ◌^◌, ◌≤◌}
use native.Mathlib.Nat.{mul-add, mul_comm}
use native.Mathlib.Omega.{arith}
use Rattle.walks.specs.Best.{Found}
use Rattle.tree.specs.Block.{beside_of}
use Rattle.rows.specs.Row.{Row, Kept}
use Rattle.rows.specs.Way.{RowMade}
use Rattle.rows.specs.Pass.{BlockClosed}
use Rattle.rows.proofs.Stores.{kept_more, row-part, row-join, row_kept}

-- the two rows stand apart
abbrev pub Apart : (old new base size : ℕ) → Type 0
Apart old new base size = (old + base + size ≤ new + base) ⊎ (new + base + size ≤ old + base)

-- B and P are written to in the row at `new` alone, and there the stops from `base` to before i are those of the row f r: where the row at `old`
-- was r. For each of them `each` candidates were weighed
pub record Made (p p' : ℕ) (f : (ℕ → Found ℕ) → ℕ → Found ℕ) (old new base size each i : ℕ) (B P B' P' : List ℕ) (count : ℕ) : Type 0 where
  pub low : base ≤ i
  pub high : i ≤ base + size
  pub counted : count ≡ each * (i - base)
  pub totals-kept : Kept (new + base) size B B'
  pub pivots-kept : Kept (new + base) size P P'
  pub made : (r : ℕ → Found ℕ) → Row p r old base size B P → Row p' (f r) new base (i - base) B' P'

module _ {p p' : ℕ} {f : (ℕ → Found ℕ) → ℕ → Found ℕ} {old new base size each : ℕ} {B P : List ℕ} where
  -- the old row is as it was
  made-old : {i start part count : ℕ} {B' P' : List ℕ} {r : ℕ → Found ℕ} → Apart old new base size → base ≤ start → start + part ≤ base + size
      → Made p p' f old new base size each i B P B' P' count → Row p r old base size B P → Row p r old start part B' P'
  made-old apart a b m l = row-part a b (row_kept apart m.totals-kept m.pivots-kept l)

  -- four stops more
  pub made-four : {i start part count more : ℕ} {B' P' B'' P'' : List ℕ} → Apart old new base size → base ≤ start → start + part ≤ base + size
      → i + 4 ≤ base + size → Made p p' f old new base size each i B P B' P' count → RowMade p p' f old start part new i 4 (4 * each) B' P' B'' P'' more
      → Made p p' f old new base size each (i + 4) B P B'' P'' (count + more)
  made-four {i} apart a b c m g = record {
    low = omega (arith, m.low);
    high = omega arith;
    counted =
        let e : i + 4 - base ≡ i - base + 4 = omega (arith, m.low) in
        rw (e, mul-add each (i - base) 4) (omega (arith, m.counted, g.counted, mul_comm each 4));
    totals-kept = kept_more (omega (arith, m.low)) (omega arith) m.totals-kept g.totals_kept;
    pivots-kept = kept_more (omega (arith, m.low)) (omega arith) m.pivots-kept g.pivots_kept;
    made = λ r s.
        row-join (omega (arith, m.low)) (omega (arith, m.low)) (row_kept (inl (omega (arith, m.low))) g.totals_kept g.pivots_kept (m.made r s)) (g.turned r (made-old apart a b m s));
  }

  -- the same from the stops of a block that holds the candidates of its stops
  pub made_columns : {t i count more : ℕ} {B' P' B'' P'' : List ℕ} → Apart old new base size → BlockClosed t base size → i + 4 ≤ base + size
      → Made p p' f old new base size each i B P B' P' count → RowMade p p' f old (beside_of i t) (2 ^ t) new i 4 (4 * each) B' P' B'' P'' more
      → Made p p' f old new base size each (i + 4) B P B'' P'' (count + more)
  made_columns {i = i} apart near room m g = made-four apart (near.low i m.low (omega arith)) (near.high i m.low (omega arith)) room m g

  -- all stops
  pub made_all : {i count : ℕ} {B' P' : List ℕ} → base + size ≤ i → Made p p' f old new base size each i B P B' P' count
      → RowMade p p' f old base size new base size (each * size) B P B' P' count
  made_all {i} h m = record {
    counted = let e : i - base ≡ size = omega (arith, m.low, m.high) in m.counted ∙ ap (λ x. each * x) e;
    turned = λ r l. row-part (omega arith) (omega (arith, m.low)) (m.made r l);
    totals_kept = m.totals-kept;
    pivots_kept = m.pivots-kept;
  }
