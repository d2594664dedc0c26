-- What was written where: lists that are as they were but for some places, and rows as they are made, four stops at a time.
use mathlib.Core.Path.{◌≡◌, refl, ◌∙◌}
use mathlib.Core.Bool.{Bool}
use mathlib.Core.List.{List}
use mathlib.Core.Logic.{◌⊎◌, inl, inr}
use Prim.Native.Nat.{ℕ, ◌+◌, ◌≤◌, ◌<◌}
use native.Mathlib.Nat.{zero-add}
use native.Mathlib.Decide.{dec_lt}
use native.Mathlib.Omega.{arith}
use lib.ListN.{length, get_or, set, length-set}
use lib.Seq.{get_or-set_same, get_or-set_other}
use Rattle.walks.specs.Best.{Found}
use Rattle.rows.specs.declared.way.Way.{Way}
use Rattle.rows.specs.declared.way.Four.{Four}
use Rattle.rows.specs.Row.{Stands, Row, Kept}
use Rattle.rows.specs.Way.{Leads, Loaded, Written, InFour}
use Rattle.rows.proofs.Cells.{read_as}
use Rattle.rows.proofs.Ways.{leads-loaded, all-four}

-- nothing was written
pub kept-none : {start size : ℕ} {l : List ℕ} → Kept start size l l
kept-none = record { long = refl; before = λ j x. refl; after = λ j x. refl }

-- one store
pub kept_set : {start size : ℕ} {l : List ℕ} (at v : ℕ) → start ≤ at → at < start + size → Kept start size l (set l at v)
kept_set {l = l} at v a b = record {
  long = rw length-set;
  before = λ j x. get_or-set_other l at j v 0 (λ e. absurd (omega arith));
  after = λ j x. get_or-set_other l at j v 0 (λ e. absurd (omega arith));
}

-- one after another
pub kept_more : {start size at more : ℕ} {l l' l'' : List ℕ} → start ≤ at → at + more ≤ start + size → Kept start size l l' → Kept at more l' l''
    → Kept start size l l''
kept_more a b k m = record {
  long = m.long ∙ k.long;
  before = λ j x. m.before j (omega arith) ∙ k.before j x;
  after = λ j x. m.after j (omega arith) ∙ k.after j x;
}

-- a place apart from those that were written
pub kept_at : {start size : ℕ} {l l' : List ℕ} (j : ℕ) → Kept start size l l' → (j < start) ⊎ (start + size ≤ j) → get_or l' j 0 ≡ get_or l j 0
kept_at j k (inl x) = k.before j x
kept_at j k (inr x) = k.after j x

module _ {p : ℕ} {r : ℕ → Found ℕ} {off : ℕ} where
  -- a part of a row
  pub row-part : {base size start part : ℕ} {B P : List ℕ} → base ≤ start → start + part ≤ base + size → Row p r off base size B P → Row p r off start part B P
  row-part a b l = record { holds = λ i x y. l.holds i (omega arith) (omega arith) }

  -- two parts
  pub row-join : {base size next more whole : ℕ} {B P : List ℕ} → next ≡ base + size → whole ≡ size + more → Row p r off base size B P → Row p r off next more B P
      → Row p r off base whole B P
  row-join {base} {size} {next} {more} {whole} {B} {P} e f l m = record { holds = λ i x y. go i x y (dec_lt i next) }
    where
      go : (i : ℕ) → base ≤ i → i < base + whole → Dec (i < next) → Stands p r i (get_or B (off + i) 0) (get_or P (off + i) 0)
      go i x y (yes z) = l.holds i x (omega arith)
      go i x y (no z) = m.holds i (omega arith) (omega arith)

  -- a row that was not written to
  pub row_kept : {base size start more : ℕ} {B P B' P' : List ℕ} → (off + base + size ≤ start) ⊎ (start + more ≤ off + base)
      → Kept start more B B' → Kept start more P P' → Row p r off base size B P → Row p r off base size B' P'
  row_kept {base} {size} {start} {more} {B} {P} {B'} {P'} apart k m l = record { holds = λ i x y. each i x y (far i x y apart) }
    where
      far : (i : ℕ) → base ≤ i → i < base + size → (off + base + size ≤ start) ⊎ (start + more ≤ off + base) → (off + i < start) ⊎ (start + more ≤ off + i)
      far i x y (inl z) = inl (omega arith)
      far i x y (inr z) = inr (omega arith)

      each : (i : ℕ) → base ≤ i → i < base + size → (off + i < start) ⊎ (start + more ≤ off + i) → Stands p r i (get_or B' (off + i) 0) (get_or P' (off + i) 0)
      each i x y z = rw (kept_at (off + i) k z, kept_at (off + i) m z) (l.holds i x y)

  -- a way that is written
  pub row_one : {i at : ℕ} {w : Way} {B P : List ℕ} → at ≡ off + i → Leads p r i w → Written B P at w → Row p r off i 1 B P
  row_one {i} e s l = record { holds = λ j x y. let f : j ≡ i = omega arith in rw (f, ← e, l.total, l.pivot) s }

  -- four ways
  pub row-four : {i at : ℕ} {w : Four Way} {B P : List ℕ} → at ≡ off + i → InFour (Leads p r) i w → InFour (Written B P) at w → Row p r off i 4 B P
  row-four e s l =
      row-join {size = 3} refl refl (row-join {size = 2} refl refl (row-join {size = 1} refl refl (row_one e s.a l.a) (row_one (omega arith) s.b l.b))
      (row_one (omega arith) s.c l.c)) (row_one (omega arith) s.d l.d)

-- a way that was just written
pub written-set : (B P : List ℕ) {B' P' : List ℕ} (j : ℕ) (w : Way) → j < length B → j < length P → B' ≡ set B j w.total → P' ≡ set P j w.pivot → Written B' P' j w
written-set B P j w a b e f = rw (e, f) (record { total = get_or-set_same B j w.total 0 a; pivot = get_or-set_same P j w.pivot 0 b })

-- four ways that are read from the even row
pub loaded-four : {p i : ℕ} {r : ℕ → Found ℕ} {early : Bool} {w : Four Way} {B P : List ℕ} → Row p r 0 i 4 B P → InFour (λ j. Loaded early B P j j) i w → InFour (Leads p (read_as early r)) i w
loaded-four l s = all-four (λ j x a b k. leads-loaded (rw zero-add at (l.holds j a b)) k) s
