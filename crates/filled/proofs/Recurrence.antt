-- The table's rows: each is made from those before it.
use mathlib.Core.Path.{◌≡◌, refl, sym, ap, ◌∙◌, fun_ext}
use mathlib.Core.Bool.{Bool, true, false, cond}
use mathlib.Core.List.{List, []}
use Prim.Native.Nat.{ℕ, zero, suc, ◌*◌, ◌-◌, ◌/◌, ◌^◌, ◌≤◌, ◌<◌}
use native.Mathlib.Nat.{add-mul, one-mul}
use native.Mathlib.Omega.{arith}
use Rattle.tree.specs.Neighbour.{trail, reach}
use Rattle.tree.proofs.Beside.{trail-split}
use Rattle.orders.proofs.Shift.{reach-pos}
use Rattle.walks.specs.Best.{Found, none, first}
use Rattle.filled.specs.Table.{beside_filled, from_beside, cell_from, rows_to, table_at}

-- the places before a place that the group beside fills
pub reach-le : (p : ℕ) → 0 < p → reach p ≤ p
unfolding reach
reach-le p b = let a : ℕ = p / 2 ^ suc (trail p) in omega (arith, trail-split p b, add-mul (2 * a) 1 (2 ^ trail p), one-mul (2 ^ trail p))

module _ (k : ℕ) (s : ℕ → Bool) (t : ℕ → ℕ → ℕ) where
  -- a cell is made from earlier rows only
  cell_same : (R Q : ℕ → ℕ → Found (List ℕ)) (p i : ℕ) → 0 < p → ((q j : ℕ) → q < p → R q j ≡ Q q j) → cell_from k s t R p i ≡ cell_from k s t Q p i
  unfolding cell_from
  cell_same R Q p i b h =
      let before : p - 1 < p = omega arith in
      let skipped : p - reach p < p = omega (arith, reach-pos p) in
      rw (h (p - reach p) i skipped) (ap (λ (row : ℕ → Found (List ℕ)). cond (beside_filled k s p i) (from_beside k s t row p i) (Q (p - reach p) i)) (fun_ext (λ j. h (p - 1) j before)))

  -- rows do not change when more are made
  rows_same : (d e p i : ℕ) → p < d → p < e → rows_to k s t d p i ≡ rows_to k s t e p i
  unfolding rows_to
  rows_same zero e p i a b = absurd (omega arith)
  rows_same (suc d) zero p i a b = absurd (omega arith)
  rows_same (suc d) (suc e) zero i a b = refl
  rows_same (suc d) (suc e) (suc p) i a b =
      ap (λ (c : Found (List ℕ)). cond (s i) c none) (cell_same (rows_to k s t d) (rows_to k s t e) (suc p) i (omega arith) (λ q j c. rows_same d e q j (omega arith) (omega arith)))

  -- the first row
  pub table-zero : (i : ℕ) → table_at k s t 0 i ≡ first (s i) 0 []
  unfolding table_at rows_to
  table-zero i = refl

  -- EACH OTHER ROW
  table-suc : (p i : ℕ) → 0 < p → table_at k s t p i ≡ cond (s i) (cell_from k s t (table_at k s t) p i) none
  unfolding table_at rows_to
  table-suc zero i b = absurd (omega arith)
  table-suc (suc p) i b = ap (λ (c : Found (List ℕ)). cond (s i) c none)
      (cell_same (rows_to k s t (suc p)) (table_at k s t) (suc p) i b (λ q j c. rows_same (suc p) (suc q) q j c (omega arith)))

  -- an empty stop has no list
  pub table_empty : (p i : ℕ) → s i ≡ false → table_at k s t p i ≡ none
  unfolding first
  table_empty zero i e = table-zero i ∙ rw e
  table_empty (suc p) i e = table-suc (suc p) i (omega arith) ∙ rw e

  -- a filled stop with a filled stop in the group beside it comes from there
  pub table_beside : (p i : ℕ) → 0 < p → s i ≡ true → beside_filled k s p i ≡ true → table_at k s t p i ≡ from_beside k s t (table_at k s t (p - 1)) p i
  unfolding cell_from
  table_beside p i b e f = table-suc p i b ∙ rw (e, f)

  -- where that group is empty it is as if the stop stood earlier
  pub table-skip : (p i : ℕ) → 0 < p → beside_filled k s p i ≡ false → table_at k s t p i ≡ table_at k s t (p - reach p) i
  unfolding cell_from
  table-skip p i b f = go (s i) refl
    where
      go : (c : Bool) → s i ≡ c → table_at k s t p i ≡ table_at k s t (p - reach p) i
      go true e = table-suc p i b ∙ rw (e, f)
      go false e = table_empty p i e ∙ sym (table_empty (p - reach p) i e)
