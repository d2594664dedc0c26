-- Rows several places on, and the weighings on the way: what they are for one, three and four places, and that they add up.
use mathlib.Core.Path.{◌≡◌, refl, ap, ◌∙◌}
use mathlib.Core.Bool.{Bool, true, false}
use Prim.Native.Nat.{ℕ, zero, suc, ◌+◌, ◌*◌, ◌%◌, ◌^◌, ◌≤◌, ◌<◌}
use native.Mathlib.Nat.{add-zero, add-suc, add_assoc, mul_comm, mul-le-mul}
use native.Mathlib.Omega.{arith}
use lib.Pow.{pow_mono}
use Rattle.walks.specs.Best.{Found}
use Rattle.tree.specs.Neighbour.{trail, reach}
use Rattle.tree.proofs.Beside.{trail-lt}
use Rattle.rows.specs.Costing.{Costing}
use Rattle.rows.specs.Row.{next, along, last_row}
use Rattle.rows.specs.Way.{three_on}
use Rattle.rows.specs.Pass.{AlignedBlock, weighings}
use Rattle.rows.proofs.Blocks.{trail_first, trail_second, trail_third, trail-same}

module _ (C : Costing) (early : Bool) (r : ℕ → Found ℕ) where
  -- one part of the places after the other
  pub along-add : (from a b : ℕ) → along C early from (a + b) r ≡ along C early (from + a) b (along C early from a r)
  unfolding along
  along-add from a zero = rw add-zero
  along-add from a (suc b) = rw (add-suc a b, ← (add_assoc from a b)) (ap (next C (from + a + b) early) (along-add from a b))

  -- one place
  pub along_one : (p : ℕ) → along C early p 1 r ≡ next C p early r
  unfolding along
  along_one p = rw add-zero

  -- three
  pub along-three : (p : ℕ) → along C early p 3 r ≡ three_on C early early p r
  unfolding along
  along-three p = rw add-zero

-- four places are one and three
pub along-four : (C : Costing) (early : Bool) (r : ℕ → Found ℕ) (p : ℕ) → along C early p 4 r ≡ three_on C early early (p + 1) (next C p early r)
along-four C early r p = along-add C early r p 1 3 ∙ along-three C early (along C early p 1 r) (p + 1) ∙ ap (three_on C early early (p + 1)) (along_one C early r p)

-- the last row of two places
pub last-two : (C : Costing) (r : ℕ → Found ℕ) (left : ℕ) → last_row C left 1 r ≡ next C (left + 1) false r
unfolding along
last-two C r left = along_one C false r (left + 1)

-- of four
pub last-four : (C : Costing) (r : ℕ → Found ℕ) (left : ℕ) → last_row C left 2 r ≡ three_on C true false (left + 1) r
unfolding along
last-four C r left =
    let one : left + 1 + 0 ≡ left + 1 = omega arith in
    let two : left + 2 + 0 ≡ left + 1 + 1 = omega arith in
    let three : left + 2 + 1 ≡ left + 1 + 2 = omega arith in
    rw (one, two, three)

-- the weighings of one part of the places after the other
pub weighings-add : (size from a b : ℕ) → weighings size from (a + b) ≡ weighings size from a + weighings size (from + a) b
unfolding weighings
weighings-add size from a zero = rw add-zero (omega arith)
weighings-add size from a (suc b) = rw (add-suc a b, add_assoc from a b) (omega (arith, weighings-add size from a b))

-- a place reaches fewer than 1,024 stops
pub reach_few : (p : ℕ) → 0 < p → p < 1024 → reach p ≤ 1024
unfolding reach
reach_few p a b = pow_mono {i = trail p} {j = 10} (omega (arith, trail-lt 10 p (omega arith) (omega arith)))

-- so a row's weighings are few
pub row-few : (size p t : ℕ) → size ≤ 1024 → 0 < p → p < 1024 → t ≡ trail p → 2 ^ t * size ≤ 1048576
unfolding reach
row-few size p t a b c e = rw e (mul-le-mul {n₂ = 1024} {m₂ = 1024} (reach_few p b c) a)

-- and those of several
pub weighings-few : (size from d : ℕ) → size ≤ 1024 → 0 < from → from + d ≤ 1024 → weighings size from d ≤ d * 1048576
unfolding weighings
weighings-few size from zero a b c = omega arith
weighings-few size from (suc d) a b c =
    omega (arith, weighings-few size from d a b (omega arith), mul-le-mul {n₂ = 1024} {m₂ = 1024} a (reach_few (from + d) (omega arith) (omega arith)))

-- those of a leaf's places
pub weighings-three : (size p : ℕ) → p % 4 ≡ 1 → weighings size p 3 ≡ 4 * size
unfolding weighings reach
weighings-three size p one = rw (add-zero, trail_first p one, trail_second p one, trail_third p one) (omega arith)

-- those of a chunk's
pub weighings-four : (size p t : ℕ) → p % 4 ≡ 0 → t ≡ trail p → weighings size p 4 ≡ 2 ^ t * size + 4 * size
unfolding weighings reach
weighings-four size p t four e = weighings-add size p 1 3 ∙ rw (weighings-three size (p + 1) (omega arith), add-zero, e) (omega (arith, mul_comm size (2 ^ trail p)))

-- in an aligned block they are the same wherever it starts
pub weighings-same : {n left m : ℕ} (size d : ℕ) → AlignedBlock n left m → d < 2 ^ m → weighings size (left + 1) d ≡ weighings size 1 d
unfolding weighings reach
weighings-same size zero a h = refl
weighings-same {n} {left} {m} size (suc d) a h =
    let e : left + 1 + d ≡ a.number * 2 ^ m + suc d = omega (arith, a.starts) in
    let f : 1 + d ≡ suc d = omega arith in
    let g : trail (left + 1 + d) ≡ trail (1 + d) = rw (e, f) (trail-same a.number m (suc d) (omega arith) h) in
    rw (weighings-same size d a (omega arith), g)
