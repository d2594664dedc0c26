-- Ways. The candidates of stop i for place p are a block of stops; weighing them one after another keeps the best over the stops below j, as a
-- number above all totals before the first and as a cell of `chosen` from then on (`below-first`, `below_more`). When all are weighed the rest of
-- the stops may not come before i, so what is held is the best over all, and once it is settled it is the next row's cell (`below_last`).
use mathlib.Core.Path.{◌≡◌, refl, sym, ap, subst}
use mathlib.Core.Bool.{Bool, true, false, cond}
use mathlib.Core.List.{List}
use Prim.Native.Nat.{ℕ, zero, suc, ◌+◌, ◌^◌, ◌≤◌, ◌<◌}
use native.Mathlib.Decide.{dec_lt}
use native.Mathlib.Omega.{arith}
use borrow.Author.Tests.{ltb-false}
use lib.Dec.{ltb}
use lib.ListN.{get_or}
use lib.Pow.{pow_pos}
use Rattle.walks.specs.Best.{Found, none, scan, first, step}
use Rattle.walks.specs.Rows.{told, turn}
use Rattle.tree.specs.Neighbour.{trail, may_follow}
use Rattle.tree.specs.Block.{beside_of}
use Rattle.tree.proofs.Block.{may_follow-block}
use Rattle.rows.specs.declared.way.Way.{Way}
use Rattle.rows.specs.declared.way.Four.{Four}
use Rattle.rows.specs.Costing.{Costing}
use Rattle.rows.specs.Row.{unreached, nothing, most, next, first_row, StandsFor, Stands}
use Rattle.rows.specs.Way.{chosen, BestBelow, Priced, Weighing, Weighed, Settled, Leads, OnlyBefore, TwoBefore, Light, Loaded, EachFour, InFour, ByFour}
use Rattle.rows.proofs.Cells.{keep-none, turn-stands, stands-told, next-chosen, read_as, stands-small}

-- the least of two is at most the one that is weighed
turn-le : (x q : ℕ) (s : ℕ × ℕ) → (turn true x q s).0 ≤ x
unfolding turn
turn-le x q s = go (ltb x s.0) refl
  where
    go : (b : Bool) → ltb x s.0 ≡ b → (cond b (x, q) s).0 ≤ x
    go true e = omega arith
    go false e = omega (arith, ltb-false x s.0 e)

-- weighing by the cost of a move
pub weighed-by : {weight : ℕ → ℕ → ℕ} {from to cost : ℕ} {before held w : Way} → Priced weight from to cost → Weighing before cost held w → Weighed weight from before to held w
weighed-by e h = record { turned = rw e.cost at h.turned; small = rw (← e.cost) (omega (arith, e.small)); counted = h.counted }

module _ (C : Costing) (p : ℕ) (r : ℕ → Found ℕ) where
  -- no other stop may be left
  not-near : (j i : ℕ) → (beside_of i (trail p) ≤ j → j < beside_of i (trail p) + 2 ^ trail p → ⊥) → may_follow p j i ≡ false
  not-near j i h = go (may_follow p j i) refl
    where
      go : (b : Bool) → may_follow p j i ≡ b → may_follow p j i ≡ false
      go false e = e
      go true e = let w = (may_follow-block p j i).0 e in absurd (h w.0 w.1)

  -- stops that may not be left change nothing
  chosen-skip : (i a k : ℕ) → a ≤ k → ((j : ℕ) → a ≤ j → j < k → may_follow p j i ≡ false) → chosen C p r i k ≡ chosen C p r i a
  unfolding chosen scan step
  chosen-skip i a zero b h = let e : a ≡ 0 = omega arith in rw e
  chosen-skip i a (suc k) b h = go (dec_lt a (suc k)) (λ c. chosen-skip i a k c (λ j u v. h j u (omega arith)))
    where
      go : Dec (a < suc k) → (a ≤ k → chosen C p r i k ≡ chosen C p r i a) → chosen C p r i (suc k) ≡ chosen C p r i a
      go (yes c) ih = rw (h k (omega arith) (omega arith), keep-none) (ih (omega arith))
      go (no c) ih = let e : a ≡ suc k = omega arith in rw e

  -- BEFORE THE FIRST CANDIDATE
  pub below-first : (i : ℕ) (w : Way) → w.total ≡ nothing → BestBelow C p r (beside_of i (trail p)) i w
  unfolding chosen scan
  below-first i w e = record {
    cell = rw (chosen-skip i 0 (beside_of i (trail p)) (omega arith) (λ j a b. not-near j i (λ u v. omega arith))) (omega (arith, e));
    low = λ x. absurd (omega arith);
  }

  -- ONE CANDIDATE MORE
  pub below_more : (i j : ℕ) (before held w : Way) → p < 1024 → beside_of i (trail p) ≤ j → j < beside_of i (trail p) + 2 ^ trail p
      → Leads p r j before → BestBelow C p r j i held → Weighed (C.weight p) j before i held w → BestBelow C p r (suc j) i w
  unfolding chosen scan
  below_more i j before held w small a b s h z =
      let x : ℕ = before.total + C.weight p j i in
      let ok : may_follow p j i ≡ true = (may_follow-block p j i).1 (a, b) in
      let t : StandsFor (most (p + 1)) (turn true x before.pivot (held.total, held.pivot)).0 (turn true x before.pivot (held.total, held.pivot)).1 (chosen C p r i (suc j))
      = rw ok (turn-stands (most (p + 1)) (most p) (chosen C p r i j) (r j) held.total held.pivot before.total before.pivot (C.weight p j i)
      (omega arith) (omega (arith, z.small)) h.cell s.cell) in
      record {
        cell = subst (λ (y : ℕ × ℕ). StandsFor (most (p + 1)) y.0 y.1 (chosen C p r i (suc j))) (sym z.turned) t;
        low = λ y. omega (arith, ap (λ (q : ℕ × ℕ). q.0) z.turned, turn-le x before.pivot (held.total, held.pivot), s.low, z.small);
      }

  -- WHEN ALL ARE WEIGHED
  pub below_last : (early : Bool) (i : ℕ) (held w : Way) → beside_of i (trail p) + 2 ^ trail p ≤ C.stops → BestBelow C p r (beside_of i (trail p) + 2 ^ trail p) i held
      → Settled C p early i held w → Leads (p + 1) (next C p early r) i w
  below_last early i held w b h o = record { cell = rw (next-chosen C p early r i) (cell (C.fits p i) o.total); low = low (C.fits p i) o.total }
    where
      all : chosen C p r i C.stops ≡ chosen C p r i (beside_of i (trail p) + 2 ^ trail p)
      all = chosen-skip i (beside_of i (trail p) + 2 ^ trail p) C.stops b (λ j x y. not-near j i (λ u v. omega arith))

      cell : (f : Bool) → w.total ≡ cond f held.total unreached
          → StandsFor (most (p + 1)) w.total w.pivot (cond f (told (λ q. cond early i q) (chosen C p r i C.stops)) none)
      cell true e = rw (e, o.pivot, all) (stands-told (most (p + 1)) held.total held.pivot (λ q. cond early i q) _ h.cell)
      cell false e = omega arith

      low : (f : Bool) → w.total ≡ cond f held.total unreached → w.total ≤ unreached + most (p + 1)
      low true e = omega (arith, h.low (omega (arith, pow_pos (trail p))))
      low false e = omega arith

  -- the only candidate
  pub of_one : (early : Bool) (i j : ℕ) (c : ℕ) (before blank held w : Way) → blank.total ≡ nothing → OnlyBefore C p r j before i c
      → Weighing before c blank held → Settled C p early i held w → Leads (p + 1) (next C p early r) i w
  of_one early i j c before blank held w f o z s =
      let start : beside_of i (trail p) ≡ j = rw o.zeros o.near in
      let last : beside_of i (trail p) + 2 ^ trail p ≡ suc j = rw (o.zeros, o.near) (omega arith) in
      let h : BestBelow C p r (suc j) i held = below_more i j before blank held o.inside (omega (arith, start)) (omega (arith, last)) o.leads
      (rw start at (below-first i blank f)) (weighed-by o.priced z) in
      below_last early i held w (omega (arith, last, o.below)) (rw last h) s

  -- the only two candidates
  pub of_two : (early : Bool) (i j : ℕ) (c d : ℕ) (x y blank one both w : Way) → blank.total ≡ nothing → TwoBefore C p r j x y i c d
      → Weighing x c blank one → Weighing y d one both → Settled C p early i both w → Leads (p + 1) (next C p early r) i w
  of_two early i j c d x y blank one both w f o z z₂ s =
      let start : beside_of i (trail p) ≡ j = rw o.zeros o.near in
      let last : beside_of i (trail p) + 2 ^ trail p ≡ suc (j + 1) = rw (o.zeros, o.near) (omega arith) in
      let next : suc j ≡ j + 1 = omega arith in
      let h : BestBelow C p r (suc j) i one = below_more i j x blank one o.inside (omega (arith, start)) (omega (arith, last)) o.leads
      (rw start at (below-first i blank f)) (weighed-by o.priced z) in
      let h₂ : BestBelow C p r (suc (j + 1)) i both = below_more i (j + 1) y one both o.inside (omega (arith, start)) (omega (arith, last)) o.leads₂ (rw next at h) (weighed-by o.priced₂ z₂) in
      below_last early i both w (omega (arith, last, o.below)) (rw last h₂) s

-- a stop under another name
pub priced-at : {weight : ℕ → ℕ → ℕ} {from from' to c : ℕ} → from ≡ from' → Priced weight from to c → Priced weight from' to c
priced-at e s = rw (← e) s

pub stands_at : {p i j v q : ℕ} {r : ℕ → Found ℕ} → i ≡ j → Stands p r i v q → Stands p r j v q
stands_at e s = rw (← e) s

-- THE FIRST ROW: in place 0 a stop that fits costs its start
pub first_start : (C : Costing) (before left i c v q : ℕ) → left ≡ 0 → v ≡ cond (C.fits left i) c unreached → q ≡ i → c ≡ C.start i → c < 2 ^ 33 → Stands (left + 1) (first_row C before left) i v q
unfolding first
first_start C before zero i c v q e fit own cost small = go (C.fits 0 i) refl
  where
    go : (b : Bool) → C.fits 0 i ≡ b → Stands 1 (first_row C before 0) i v q
    go true x = let y : v ≡ c = rw x at fit in record { cell = rw x (omega (arith, y, cost), own, omega (arith, y)); low = omega (arith, y) }
    go false x = let y : v ≡ unreached = rw x at fit in record { cell = rw x (omega (arith, y)); low = omega (arith, y) }
first_start C before (suc l) i c v q e fit own cost small = absurd (omega arith)

-- and in a later one the move from the stop before, which it may follow
pub first_move : (C : Costing) (before left i c v q : ℕ) → 0 < left → v ≡ cond (C.fits left i) c unreached → q ≡ i → may_follow left before i ≡ true → c ≡ C.weight left before i → c < 2 ^ 33
    → Stands (left + 1) (first_row C before left) i v q
unfolding first
first_move C before zero i c v q h fit own may cost small = absurd (omega arith)
first_move C before (suc l) i c v q h fit own may cost small = go (C.fits (suc l) i) refl
  where
    go : (b : Bool) → C.fits (suc l) i ≡ b → Stands (suc l + 1) (first_row C before (suc l)) i v q
    go true x = let y : v ≡ c = rw x at fit in record { cell = rw (x, may) (omega (arith, y, cost), own, omega (arith, y)); low = omega (arith, y) }
    go false x = let y : v ≡ unreached = rw x at fit in record { cell = rw x (omega (arith, y)); low = omega (arith, y) }

-- what is read for stop i leads there
pub leads-loaded : {p i j : ℕ} {r : ℕ → Found ℕ} {early : Bool} {B P : List ℕ} {w : Way} → Stands p r i (get_or B j 0) (get_or P j 0) → Loaded early B P j i w → Leads p (read_as early r) i w
leads-loaded {p} {i} {j} {r} {early} {B} {P} {w} s l = rw (l.total, l.pivot) (go early)
  where
    go : (e : Bool) → Stands p (read_as e r) i (get_or B j 0) (cond e i (get_or P j 0))
    go false = record { cell = s.cell; low = s.low }
    go true = record { cell = stands-told (most p) (get_or B j 0) (get_or P j 0) (λ q. i) (r i) s.cell; low = s.low }

-- a way that leads to a stop can be weighed
pub leads-light : {p i : ℕ} {r : ℕ → Found ℕ} {w : Way} → p ≤ 1024 → w.count < 4294967296 → Leads p r i w → Light w
leads-light h few s = record { total = stands-small h s; count = few }

-- one law for each of four ways
pub each-four : {P Q : ℕ → Way → Type 0} {R : ℕ → Way → Way → Type 0} {i : ℕ} {w u : Four Way}
    → ((j : ℕ) (x y : Way) → i ≤ j → j < i + 4 → P j x → R j x y → Q j y) → InFour P i w → ByFour R i w u → InFour Q i u
each-four {i = i} f p o = record {
  a = f i _ _ (omega arith) (omega arith) p.a o.a;
  b = f (i + 1) _ _ (omega arith) (omega arith) p.b o.b;
  c = f (i + 2) _ _ (omega arith) (omega arith) p.c o.c;
  d = f (i + 3) _ _ (omega arith) (omega arith) p.d o.d;
}

-- the same of what holds of each
pub all-four : {P Q : ℕ → Way → Type 0} {i : ℕ} {w : Four Way} → ((j : ℕ) (x : Way) → i ≤ j → j < i + 4 → P j x → Q j x) → InFour P i w → InFour Q i w
all-four {i = i} f p = record {
  a = f i _ (omega arith) (omega arith) p.a;
  b = f (i + 1) _ (omega arith) (omega arith) p.b;
  c = f (i + 2) _ (omega arith) (omega arith) p.c;
  d = f (i + 3) _ (omega arith) (omega arith) p.d;
}

-- four ways that were weighed so often can be weighed
pub light-four : {p i k : ℕ} {r : ℕ → Found ℕ} {w : Four Way} → p ≤ 1024 → k < 4294967296 → InFour (λ j x. x.count ≡ k) i w → InFour (Leads p r) i w → EachFour Light w
light-four h few n s = record {
  a = leads-light h (omega (arith, n.a)) s.a;
  b = leads-light h (omega (arith, n.b)) s.b;
  c = leads-light h (omega (arith, n.c)) s.c;
  d = leads-light h (omega (arith, n.d)) s.d;
}
