-- Four neighbouring stops, the first a multiple of 4, in a place with t of 2 or more: they have the same candidates, which are weighed for the
-- four together.
use mathlib.Core.Path.{◌≡◌, sym, ap, subst, ◌∙◌}
use mathlib.Core.Bool.{Bool}
use mathlib.Core.List.{List}
use Prim.Native.Nat.{ℕ, ◌+◌, ◌-◌, ◌%◌, ◌^◌, ◌≤◌, ◌<◌}
use native.Mathlib.Numerals.{add-one}
use native.Mathlib.Omega.{arith}
use Rattle.walks.specs.Best.{Found}
use Rattle.tree.specs.Neighbour.{trail}
use Rattle.tree.specs.Block.{beside_of}
use Rattle.rows.specs.declared.way.Way.{Way}
use Rattle.rows.specs.declared.way.Four.{Four}
use Rattle.rows.specs.Costing.{Costing}
use Rattle.rows.specs.Row.{nothing, next, Row}
use Rattle.rows.specs.Way.{BestBelow, Weighed, Settled, Leads, Loaded, InFour, ByFour}
use Rattle.rows.proofs.Blocks.{beside-four}
use Rattle.rows.proofs.Cells.{read_as, next-read}
use Rattle.rows.proofs.Ways.{below-first, below_more, below_last, each-four, leads-loaded}

-- what is held for the stops `to` to `to` + 3 in place p once their candidates below j are weighed, where the row of the place before stands at
-- `off` of B and P
pub record Columns (C : Costing) (p t : ℕ) (early : Bool) (to off j : ℕ) (B P : List ℕ) (held : Four Way) : Type 0 where
  pub counts : InFour (λ i w. w.count ≡ j - beside_of to t) to held
  pub best : (r : ℕ → Found ℕ) → Row p r off (beside_of to t) (2 ^ t) B P → InFour (BestBelow C p (read_as early r) j) to held

module _ (C : Costing) (p t : ℕ) (early : Bool) (to off : ℕ) (B P : List ℕ) (four : to % 4 ≡ 0) (two : 2 ≤ t) (e : t ≡ trail p) where
  -- the four have the same candidates
  same : (i : ℕ) → to ≤ i → i < to + 4 → beside_of i (trail p) ≡ beside_of to t
  same i a b = ap (beside_of i) (sym e) ∙ beside-four to i t four a b two

  -- nothing is weighed
  pub columns-none : (w : Way) → (w.total ≡ nothing) × (w.count ≡ 0) → (j : ℕ) → j ≡ beside_of to t → Columns C p t early to off j B P (record { a = w; b = w; c = w; d = w })
  columns-none w h j f = record {
    counts = record { a = omega (arith, h.1); b = omega (arith, h.1); c = omega (arith, h.1); d = omega (arith, h.1) };
    best = λ r l. record {
      a = none r to (omega arith) (omega arith);
      b = none r (to + 1) (omega arith) (omega arith);
      c = none r (to + 2) (omega arith) (omega arith);
      d = none r (to + 3) (omega arith) (omega arith);
    };
  }
    where
      none : (r : ℕ → Found ℕ) (i : ℕ) → to ≤ i → i < to + 4 → BestBelow C p (read_as early r) j i w
      none r i a b = subst (λ x. BestBelow C p (read_as early r) x i w) (same i a b ∙ sym f) (below-first C p (read_as early r) i w h.0)

  -- one candidate more
  pub columns-more : {w u : Four Way} (j : ℕ) (before : Way) → p < 1024 → beside_of to t ≤ j → j < beside_of to t + 2 ^ t → Loaded early B P (off + j) j before
      → Columns C p t early to off j B P w → ByFour (Weighed (C.weight p) j before) to w u → Columns C p t early to off (j + 1) B P u
  columns-more {w} {u} j before small a b l h z = record {
    counts = record {
      a = omega (arith, h.counts.a, z.a.counted);
      b = omega (arith, h.counts.b, z.b.counted);
      c = omega (arith, h.counts.c, z.c.counted);
      d = omega (arith, h.counts.d, z.d.counted);
    };
    best = λ r s. rw add-one (each-four (λ i x y m n k o. below_more C p (read_as early r) i j before x y small (omega (arith, same i m n)) (omega (arith, same i m n, size))
        (leads-loaded (s.holds j a b) l) k o) (h.best r s) z);
  }
    where
      size : 2 ^ trail p ≡ 2 ^ t
      size = ap (λ x. 2 ^ x) (sym e)

  -- all of them
  pub columns-all : {w u : Four Way} (j : ℕ) → j ≡ beside_of to t + 2 ^ t → j ≤ C.stops → Columns C p t early to off j B P w → ByFour (Settled C p early) to w u
      → InFour (λ i x. x.count ≡ 2 ^ t) to u × ((r : ℕ → Found ℕ) → Row p r off (beside_of to t) (2 ^ t) B P → InFour (Leads (p + 1) (next C p early r)) to u)
  columns-all {w} {u} j d b h o = (
    record {
      a = omega (arith, h.counts.a, o.a.counted);
      b = omega (arith, h.counts.b, o.b.counted);
      c = omega (arith, h.counts.c, o.c.counted);
      d = omega (arith, h.counts.d, o.d.counted);
    },
    λ r s. subst (λ q. InFour (Leads (p + 1) q) to u) (next-read C p early r) (each-four (λ i x y m n k z. below_last C p (read_as early r) early i x y
        (omega (arith, last i m n)) (subst (λ q. BestBelow C p (read_as early r) q i x) (last i m n) k) z) (h.best r s) o),
  )
    where
      last : (i : ℕ) → to ≤ i → i < to + 4 → j ≡ beside_of i (trail p) + 2 ^ trail p
      last i m n = let size : 2 ^ trail p ≡ 2 ^ t = ap (λ x. 2 ^ x) (sym e) in omega (arith, same i m n)
