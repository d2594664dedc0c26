-- Four stops led through three places in registers.
use mathlib.Core.Path.{◌≡◌, subst}
use mathlib.Core.Bool.{Bool}
use mathlib.Core.List.{List}
use Prim.Native.Nat.{ℕ, ◌+◌, ◌≤◌, ◌<◌}
use native.Mathlib.Omega.{arith}
use Rattle.walks.specs.Best.{Found}
use Rattle.rows.specs.declared.way.Way.{Way}
use Rattle.rows.specs.declared.way.Four.{Four}
use Rattle.rows.specs.Costing.{Costing}
use Rattle.rows.specs.Row.{next, Row, SomeRow}
use Rattle.rows.specs.Way.{Leads, Light, Loaded, Written, EachFour, InFour, ByFour, Grown, three_on}
use Rattle.rows.proofs.Cells.{read_as, next-read}
use Rattle.rows.proofs.Ways.{light-four}
use Rattle.rows.proofs.Stores.{row-four, loaded-four}

-- four ways lead to the stops from i on in some row of the place before p, and each was weighed k times
pub record Ways (p i k : ℕ) (w : Four Way) : Type 0 where
  pub row : ℕ → Found ℕ
  pub leads : InFour (Leads p row) i w
  pub counts : InFour (λ j x. x.count ≡ k) i w

-- they can be weighed
pub ways-light : {p i k : ℕ} {w : Four Way} → p ≤ 1024 → k < 4294967296 → Ways p i k w → EachFour Light w
ways-light h few s = light-four h few s.counts s.leads

-- as they are read
pub ways-read : {p i : ℕ} {early : Bool} {w : Four Way} {B P : List ℕ} → SomeRow p 0 i 4 B P → InFour (λ j. Loaded early B P j j) i w → Ways p i 0 w
ways-read {early = early} s l = record {
  row = read_as early s.row;
  leads = loaded-four s.there l;
  counts = record { a = l.a.counted; b = l.b.counted; c = l.c.counted; d = l.d.counted };
}

-- one place on
pub ways_next : {p p' i k : ℕ} (d : ℕ) {f : (ℕ → Found ℕ) → ℕ → Found ℕ} {w u : Four Way} → Ways p i k w
    → ByFour (Grown d) i w u × ((row : ℕ → Found ℕ) → InFour (Leads p row) i w → InFour (Leads p' (f row)) i u) → Ways p' i (k + d) u
ways_next d {f} s o = record {
  row = f s.row;
  leads = o.1 s.row s.leads;
  counts = record {
    a = omega (arith, s.counts.a, o.0.a);
    b = omega (arith, s.counts.b, o.0.b);
    c = omega (arith, s.counts.c, o.0.c);
    d = omega (arith, s.counts.d, o.0.d);
  };
}

-- under another name for the place
pub ways-at : {p p' i k : ℕ} {w : Four Way} → p ≡ p' → Ways p i k w → Ways p' i k w
ways-at e s = rw (← e) s

-- so many weighings in all
pub ways-sum : {p i k : ℕ} {w : Four Way} → Ways p i k w → w.a.count + w.b.count + w.c.count + w.d.count ≡ k + k + k + k
ways-sum s = omega (arith, s.counts.a, s.counts.b, s.counts.c, s.counts.d)

-- THE LEAF: four stops that are read, led through three places and written
pub leaf-made : (C : Costing) (rest : Bool) {p i off : ℕ} {first : Bool} {o x y z : Four Way} {B P B' P' : List ℕ} → InFour (λ j. Loaded first B P j j) i o
    → ((row : ℕ → Found ℕ) → InFour (Leads p row) i o → InFour (Leads (p + 1) (next C p first row)) i x)
    → ((row : ℕ → Found ℕ) → InFour (Leads (p + 1) row) i x → InFour (Leads (p + 1 + 1) (next C (p + 1) rest row)) i y)
    → ((row : ℕ → Found ℕ) → InFour (Leads (p + 2) row) i y → InFour (Leads (p + 2 + 1) (next C (p + 2) rest row)) i z)
    → InFour (Written B' P') (off + i) z → (r : ℕ → Found ℕ) → Row p r 0 i 4 B P → Row (p + 3) (three_on C first rest p r) off i 4 B' P'
leaf-made C rest {p} {i} {off} {first} {o} {x} {y} {z} {B} {P} {B'} {P'} l f g h s r row =
    let two : p + 1 + 1 ≡ p + 2 = omega arith in
    let three : p + 2 + 1 ≡ p + 3 = omega arith in
    let read : next C p first (read_as first r) ≡ next C p first r = next-read C p first r in
    let one : InFour (Leads (p + 1) (next C p first r)) i x = subst (λ q. InFour (Leads (p + 1) q) i x) read (f (read_as first r) (loaded-four row l)) in
    let both : InFour (Leads (p + 2) (next C (p + 1) rest (next C p first r))) i y = subst (λ q. InFour (Leads q (next C (p + 1) rest (next C p first r))) i y) two (g (next C p first r) one) in
    let all : InFour (Leads (p + 3) (three_on C first rest p r)) i z = subst (λ q. InFour (Leads q (three_on C first rest p r)) i z) three (h (next C (p + 1) rest (next C p first r)) both) in
    row-four (omega arith) all s
