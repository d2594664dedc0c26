-- The rows of a block of places are the rows of its best walks: `next` and `along` step by step are walks' `line`.
use mathlib.Core.Path.{◌≡◌, refl, sym, ap, subst, ◌∙◌}
use mathlib.Core.Bool.{Bool, true, false}
use mathlib.Core.List.{List}
use Prim.Native.Nat.{ℕ, zero, suc, ◌+◌, ◌-◌, ◌^◌, ◌≤◌, ◌<◌}
use native.Mathlib.Nat.{add-zero}
use native.Mathlib.Omega.{arith}
use borrow.Author.Tests.{le-leb, lt-leb}
use lib.Dec.{leb}
use lib.ListN.{get_or}
use lib.Pow.{pow_pos}
use Rattle.walks.specs.Halves.{segment, past}
use Rattle.walks.specs.Rows.{line}
use Rattle.walks.proofs.Halves.{past-sum}
use Rattle.rows.specs.Costing.{Costing, block_graph}
use Rattle.rows.specs.Row.{most, next, along, first_row, last_row, StandsFor, Row}
use Rattle.rows.specs.Pass.{RowHolds}
use Rattle.rows.proofs.Blocks.{pow-half}
use Rattle.rows.proofs.Cells.{stands-codes}

module _ (C : Costing) (before left mid : ℕ) where
  -- the row of one place more
  line-next : (p : ℕ) (early : Bool) → leb (suc p) mid ≡ early → line (block_graph C before left) mid (suc p) ≡ next C (left + 1 + p) early (line (block_graph C before left) mid p)
  unfolding block_graph segment line next
  line-next p early e =
      let at : suc (past left p) ≡ left + 1 + p = omega (arith, past-sum left p) in
      ap (λ q. next C q (leb (suc p) mid) (line (block_graph C before left) mid p)) at ∙ ap (λ b. next C (left + 1 + p) b (line (block_graph C before left) mid p)) e

  -- up to the middle place
  line-early : (d : ℕ) → d ≤ mid → along C true (left + 1) d (first_row C before left) ≡ line (block_graph C before left) mid d
  unfolding along block_graph segment line
  line-early zero h = refl
  line-early (suc d) h = ap (next C (left + 1 + d) true) (line-early d (omega arith)) ∙ sym (line-next d true (le-leb (suc d) mid h))

  -- past it
  line-late : (d : ℕ) → along C false (left + 1 + mid) d (line (block_graph C before left) mid mid) ≡ line (block_graph C before left) mid (mid + d)
  unfolding along
  line-late zero = rw add-zero
  line-late (suc d) =
      let at : left + 1 + mid + d ≡ left + 1 + (mid + d) = omega arith in
      let e : mid + suc d ≡ suc (mid + d) = omega arith in
      rw (e, at) (ap (next C (left + 1 + (mid + d)) false) (line-late d) ∙ sym (line-next (mid + d) false (lt-leb (suc (mid + d)) mid (omega arith))))

-- THE LAST ROW of a block
pub last_line : (C : Costing) (before left half : ℕ) → 0 < half → last_row C left half (first_row C before left) ≡ line (block_graph C before left) (half - 1) (half - 1 + half)
last_line C before left half h =
    let at : left + half ≡ left + 1 + (half - 1) = omega arith in
    rw at (ap (along C false (left + 1 + (half - 1)) half) (line-early C before left (half - 1) (half - 1) (omega arith)) ∙ line-late C before left (half - 1) half)

-- with 'no walk' as a number
pub last-holds : (C : Costing) (before left m : ℕ) {off base : ℕ} {B P : List ℕ} → 0 < m → left + 2 ^ m ≤ 1024 → Row (left + 2 ^ m) (last_row C left (2 ^ (m - 1)) (first_row C before left)) off base (2 ^ m) B P
    → RowHolds (block_graph C before left) (2 ^ (m - 1) - 1) (2 ^ m - 1) off base (2 ^ m) B P
last-holds C before left m {off} {base} {B} {P} some small l = record {
  holds = λ i x y. stands-codes (most (left + 2 ^ m)) (get_or B (off + i) 0) (get_or P (off + i) 0) (line (block_graph C before left) (2 ^ (m - 1) - 1) (2 ^ m - 1) i) (omega arith) (subst (λ r. StandsFor (most (left + 2 ^ m)) (get_or B (off + i) 0) (get_or P (off + i) 0) (r i)) e (l.holds i x y).cell);
}
  where
    e : last_row C left (2 ^ (m - 1)) (first_row C before left) ≡ line (block_graph C before left) (2 ^ (m - 1) - 1) (2 ^ m - 1)
    e = let f : 2 ^ m - 1 ≡ 2 ^ (m - 1) - 1 + 2 ^ (m - 1) = omega (arith, pow-half m some, pow_pos (m - 1)) in rw f (last_line C before left (2 ^ (m - 1)) (pow_pos (m - 1)))
