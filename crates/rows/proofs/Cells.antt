-- Numbers that stand for cells of a row, and the next row from the row before.
use mathlib.Core.Path.{◌≡◌, refl, sym, ap, ◌∙◌, fun_ext}
use mathlib.Core.Bool.{Bool, true, false, cond}
use Prim.Native.Nat.{ℕ, zero, suc, ◌+◌, ◌≤◌, ◌<◌}
use native.Mathlib.Omega.{arith}
use borrow.Author.Tests.{ltb-true, ltb-false}
use lib.Dec.{ltb}
use Rattle.walks.specs.Best.{Found, none, at, keep, scan, step}
use Rattle.walks.specs.Rows.{told, turn, Codes}
use Rattle.walks.proofs.Rows.{told-scan}
use Rattle.tree.specs.Neighbour.{may_follow}
use Rattle.rows.specs.Costing.{Costing, allowed}
use Rattle.rows.specs.Row.{unreached, most, next, StandsFor, Stands}
use Rattle.rows.specs.Way.{chosen}

-- nothing to choose from
pub keep-none : (y : Found ℕ) → keep y none ≡ y
unfolding keep
keep-none none = refl
keep-none (at c a) = refl

-- ONE WEIGHING does what `keep` does with one step: y is held, z is the candidate's cell
pub turn-stands : (b d : ℕ) (y z : Found ℕ) (v q total pivot w : ℕ) → b < unreached → d + w ≤ b → StandsFor b v q y → StandsFor d total pivot z
    → StandsFor b (turn true (total + w) pivot (v, q)).0 (turn true (total + w) pivot (v, q)).1 (keep y (step true w (λ r. r) z))
unfolding turn keep step
turn-stands b d none none v q total pivot w small more h k = go (ltb (total + w) v)
  where
    go : (t : Bool) → unreached ≤ (cond {A = ℕ × ℕ} t (total + w, pivot) (v, q)).0
    go true = omega arith
    go false = h
turn-stands b d (at e x) none v q total pivot w small more h k = go (ltb (total + w) v) refl
  where
    go : (t : Bool) → ltb (total + w) v ≡ t → StandsFor b (cond {A = ℕ × ℕ} t (total + w, pivot) (v, q)).0 (cond {A = ℕ × ℕ} t (total + w, pivot) (v, q)).1 (at e x)
    go true u = absurd (omega (arith, ltb-true (total + w) v u))
    go false u = h
turn-stands b d none (at c r) v q total pivot w small more h k = go (ltb (total + w) v) refl
  where
    go : (t : Bool) → ltb (total + w) v ≡ t → StandsFor b (cond {A = ℕ × ℕ} t (total + w, pivot) (v, q)).0 (cond {A = ℕ × ℕ} t (total + w, pivot) (v, q)).1 (at (c + w) r)
    go true u = (omega arith, k.1, omega arith)
    go false u = absurd (omega (arith, ltb-false (total + w) v u))
turn-stands b d (at e x) (at c r) v q total pivot w small more h k = rw (← k.0, ← h.0) (go (ltb (total + w) v))
  where
    go : (t : Bool) → StandsFor b (cond {A = ℕ × ℕ} t (total + w, pivot) (v, q)).0 (cond {A = ℕ × ℕ} t (total + w, pivot) (v, q)).1 (cond t (at (total + w) r) (at v x))
    go true = (refl, k.1, omega arith)
    go false = (refl, h.1, omega arith)

-- the number stands for the cell, whatever else is told beside it
pub stands-told : (b v q : ℕ) (g : ℕ → ℕ) (y : Found ℕ) → StandsFor b v q y → StandsFor b v (g q) (told g y)
unfolding told
stands-told b v q g none h = h
stands-told b v q g (at c x) h = (h.0, ap g h.1, h.2)

-- 'no walk' is a number from `unreached` on
pub stands-codes : (b v q : ℕ) (y : Found ℕ) → b < unreached → StandsFor b v q y → Codes unreached v q y
stands-codes b v q none small h = h
stands-codes b v q (at c x) small h = (h.0, h.1, omega arith)

-- a stop that does not fit may follow none
scan-none : (w : ℕ → ℕ) (r : ℕ → Found ℕ) (n : ℕ) → scan (λ j. step false (w j) (λ q. q) (r j)) n ≡ none
unfolding scan step keep
scan-none w r zero = refl
scan-none w r (suc n) = rw (scan-none w r n)

-- an early place forgets the pivot before
forgets : (b : Bool) (x j i : ℕ) (y : Found ℕ) → told (λ q. i) (step b x (λ q. q) (told (λ q. j) y)) ≡ told (λ q. i) (step b x (λ q. q) y)
unfolding told step
forgets false x j i y = refl
forgets true x j i none = refl
forgets true x j i (at c q) = refl

-- a row as it is read before an early place: each stop is its own pivot
abbrev pub read_as : Bool → (ℕ → Found ℕ) → ℕ → Found ℕ
read_as early r j = cond early (told (λ q. j) (r j)) (r j)

module _ (C : Costing) (p : ℕ) where
  -- the next row: of the stops that fit, what is chosen among those before
  pub next-chosen : (early : Bool) (r : ℕ → Found ℕ) (i : ℕ)
      → next C p early r i ≡ cond (C.fits p i) (told (λ q. cond early i q) (chosen C p r i C.stops)) none
  unfolding next chosen told
  next-chosen early r i = go (C.fits p i)
    where
      go : (b : Bool) → told (λ q. cond early i q) (scan (λ j. step (cond b (may_follow p j i) false) (C.weight p j i) (λ q. q) (r j)) C.stops)
          ≡ cond b (told (λ q. cond early i q) (scan (λ j. step (may_follow p j i) (C.weight p j i) (λ q. q) (r j)) C.stops)) none
      go true = refl
      go false = rw (scan-none (λ j. C.weight p j i) r C.stops)

  -- to read a row so makes no difference
  pub next-read : (early : Bool) (r : ℕ → Found ℕ) → next C p early (read_as early r) ≡ next C p early r
  unfolding next
  next-read false r = refl
  next-read true r = fun_ext own
    where
      own : (i : ℕ) → next C p true (λ j. told (λ q. j) (r j)) i ≡ next C p true r i
      own i =
          told-scan (λ q. i) (λ j. step (allowed C p j i) (C.weight p j i) (λ q. q) (told (λ q. j) (r j))) C.stops
          ∙ ap (λ f. scan f C.stops) (fun_ext (λ j. forgets (allowed C p j i) (C.weight p j i) j i (r j)))
          ∙ sym (told-scan (λ q. i) (λ j. step (allowed C p j i) (C.weight p j i) (λ q. q) (r j)) C.stops)

-- a number that stands for a stop is small enough to be weighed
pub stands-small : {p i v q : ℕ} {r : ℕ → Found ℕ} → p ≤ 1024 → Stands p r i v q → v ≤ unreached + most 1024
stands-small h s = omega (arith, s.low)
