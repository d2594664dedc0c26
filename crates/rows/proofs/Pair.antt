-- Two stops led through the second and last of two places, each from the other.
use mathlib.Core.Path.{◌≡◌, refl}
use mathlib.Core.Bool.{false}
use mathlib.Core.List.{List}
use Prim.Native.Nat.{ℕ, ◌+◌, ◌<◌}
use native.Mathlib.Nat.{zero-add}
use native.Mathlib.Omega.{arith}
use lib.ListN.{length, set}
use Rattle.walks.specs.Best.{Found}
use Rattle.rows.specs.declared.way.Way.{Way}
use Rattle.rows.specs.Way.{Leads, Loaded, RowMade}
use Rattle.rows.proofs.Ways.{leads-loaded}
use Rattle.rows.proofs.Stores.{kept_set, written-set, row_one}

-- the way x to one stop is read, and the way w to the other is written
pub other-made : {p p' off from to : ℕ} {f : (ℕ → Found ℕ) → ℕ → Found ℕ} (x w : Way) (B P : List ℕ) → off + to < length B → off + to < length P → Loaded false B P from from x
    → (w.count ≡ 1) × ((row : ℕ → Found ℕ) → Leads p row from x → Leads p' (f row) to w)
    → RowMade p p' f 0 from 1 off to 1 1 B P (set B (off + to) w.total) (set P (off + to) w.pivot) w.count
other-made {p} {off = off} {from} {to} x w B P a b l g = record {
  counted = g.0;
  turned = λ row r. row_one refl (g.1 row (leads-loaded (rw zero-add at (r.holds from (omega arith) (omega arith))) l)) (written-set B P (off + to) w a b refl refl);
  totals_kept = kept_set (off + to) w.total (omega arith) (omega arith);
  pivots_kept = kept_set (off + to) w.pivot (omega arith) (omega arith);
}
