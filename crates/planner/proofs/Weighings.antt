-- The weighings of the method: those of its passes, one after another. None of them is too many for 64 bits.
use mathlib.Core.Path.{◌≡◌, refl, sym, ap, ◌∙◌}
use mathlib.Core.List.{List, [], ◌∷◌, ◌++◌}
use Prim.Native.Nat.{ℕ, zero, suc, ◌+◌, ◌*◌, ◌-◌, ◌^◌, ◌≤◌, ◌<◌}
use native.Mathlib.Nat.{pow-succ', add-zero, one-mul, mul_assoc, mul_comm, mul_left_comm}
use native.Mathlib.Omega.{arith}
use lib.Pow.{pow_pos, pow-add}
use borrow.Author.Tests.{ne_eqb}
use Rattle.base.proofs.Size.{pow-le-1024}
use Rattle.tree.specs.Neighbour.{trail, reach}
use Rattle.tree.proofs.Beside.{trail-join}
use Rattle.rows.specs.Pass.{weighings, pass_weighings}
use Rattle.rows.proofs.Along.{weighings-few, weighings-add, weighings-same}
use Rattle.planner.specs.Method.{solve_weighings, plan_weighings}
use Rattle.planner.specs.Weighings.{passes, pass_makes, makes, sum_over, plan_makes}

-- those of a pass
pub pass-few : (m : ℕ) → m ≤ 10 → pass_weighings m ≤ 1073741824
unfolding pass_weighings
pass-few m h =
    let small = pow-le-1024 m h in
    omega (arith, weighings-few (2 ^ m) 1 (2 ^ m - 1) small (omega arith) (omega (arith, small, pow_pos m)), small)

-- those of solving a block
pub solve-few : (m : ℕ) → m ≤ 10 → solve_weighings m ≤ (2 ^ m - 1) * 1073741824
unfolding solve_weighings
solve-few zero h = omega arith
solve-few (suc zero) h = omega arith
solve-few (suc (suc m)) h = omega (arith, pass-few (suc (suc m)) h, solve-few (suc m) (omega arith), pow-succ' 2 (suc m), pow_pos (suc m))

-- a pass and two halves
pub solve-more : (m : ℕ) → 1 < m → pass_weighings m + solve_weighings (m - 1) + solve_weighings (m - 1) ≡ solve_weighings m
unfolding solve_weighings
solve-more zero h = absurd (omega arith)
solve-more (suc zero) h = absurd (omega arith)
solve-more (suc (suc m)) h = let e : suc (suc m) - 1 ≡ suc m = omega arith in rw e (omega arith)

-- so the sum of what they weigh is that of the block, and fits 64 bits
pub solve-sum : {m a b c : ℕ} → 1 < m → m ≤ 10 → a ≡ pass_weighings m → b ≡ solve_weighings (m - 1) → c ≡ solve_weighings (m - 1)
    → (a + b + c ≡ solve_weighings m) × (solve_weighings m < 1099511627776)
solve-sum {m} large few d e f = (omega (arith, d, e, f, solve-more m large), omega (arith, solve-few m few, pow-le-1024 m few))

-- a block of two places weighs nothing
pub solve-two : {m : ℕ} → m ≡ 1 → 0 ≡ solve_weighings m
unfolding solve_weighings
solve-two e = rw e

-- nor does one of one
pub solve-one : {m : ℕ} → m ≡ 0 → 0 ≡ solve_weighings m
unfolding solve_weighings
solve-one e = rw e

-- the whole method
pub plan-more : (k : ℕ) → 0 < k → pass_weighings k + solve_weighings (k - 1) + solve_weighings (k - 1) ≡ plan_weighings k
unfolding plan_weighings
plan-more zero h = absurd (omega arith)
plan-more (suc k) h = let e : suc k - 1 ≡ k = omega arith in rw e (omega arith)

-- the same sum
pub plan-sum : {k a b c : ℕ} → 0 < k → k ≤ 10 → a ≡ pass_weighings k → b ≡ solve_weighings (k - 1) → c ≡ solve_weighings (k - 1)
    → (a + b + c ≡ plan_weighings k) × (plan_weighings k < 4398046511104)
plan-sum {k} some few d e f =
    let more = plan-more k some in
    (omega (arith, d, e, f, more), omega (arith, more, pass-few k few, solve-few (k - 1) (omega (arith, few)), pow-le-1024 (k - 1) (omega (arith, few))))

-- of one stop
pub plan-one : {k : ℕ} → k ≡ 0 → 0 ≡ plan_weighings k
unfolding plan_weighings
plan-one e = rw e

-- ---- as document 02 counts them

-- twice the weighings of a pass over 2^m places for so many stops: each half of the places has the same, and its first place reaches 2^m stops
halves : (size m : ℕ) → 2 * weighings size 1 (2 ^ m - 1) ≡ m * (size * 2 ^ m)
unfolding weighings reach
halves size zero = omega arith
halves size (suc m) =
    let p : ℕ = 2 ^ m in
    let double : 2 ^ suc m ≡ 2 * p = pow-succ' 2 m in
    let long : 2 ^ suc m - 1 ≡ p - 1 + 1 + (p - 1) = omega (arith, double, pow_pos m) in
    let one : 1 + (p - 1) ≡ p = omega (arith, pow_pos m) in
    let next : 1 + (p - 1 + 1) ≡ p + 1 = omega (arith, pow_pos m) in
    let top : trail p ≡ m = rw (one-mul p) at (trail-join 0 m) in
    let second : weighings size (p + 1) (p - 1) ≡ weighings size 1 (p - 1) = weighings-same {n = p + p} {left = p} {m = m} size (p - 1) (record { number = 1; starts = sym (one-mul p); inside = omega arith }) (omega (arith, pow_pos m)) in
    let parts : weighings size 1 (2 ^ suc m - 1) ≡ weighings size 1 (p - 1) + size * p + weighings size 1 (p - 1) =
    ap (weighings size 1) long ∙ weighings-add size 1 (p - 1 + 1) (p - 1) ∙ rw (next, second, weighings-add size 1 (p - 1) 1, one, add-zero, top) (omega arith) in
    rw (parts, double) (omega (arith, halves size m))

-- 'A halving pass over 2^m places makes m × 2^(2m−1) of them'
pub pass-makes : (m : ℕ) → pass_weighings m ≡ pass_makes m
unfolding pass_weighings pass_makes
pass-makes zero = omega (arith, halves 1 zero)
pass-makes (suc m) =
    let p : ℕ = 2 ^ m in
    let q : ℕ = 2 ^ suc m in
    let split : 2 ^ (2 * suc m - 1) ≡ p * q = ap (λ x. 2 ^ x) (the-power m) ∙ pow-add 2 m (suc m) in
    let whole : suc m * (q * q) ≡ 2 * (suc m * (p * q)) = ap (λ x. suc m * (x * q)) (pow-succ' 2 m) ∙ simp (mul_assoc, mul_comm, mul_left_comm) in
    rw split (omega (arith, halves q (suc m), whole))
  where
    the-power : (m : ℕ) → 2 * suc m - 1 ≡ m + suc m
    the-power m = omega arith

-- one list of passes after the other
sum-append : (f : ℕ → ℕ) (l r : List ℕ) → sum_over f (l ++ r) ≡ sum_over f l + sum_over f r
unfolding sum_over
sum-append f [] r = omega arith
sum-append f (m ∷ l) r = omega (arith, sum-append f l r)

-- a pass that is not over 2 places
makes-more : (k m : ℕ) → (m ≡ 1 → ⊥) → makes k m ≡ pass_makes m
unfolding makes
makes-more k m h = rw (ne_eqb m 1 h)

-- the passes of a block that is halved, where k is not 1
solve-makes : (k m : ℕ) → (k ≡ 1 → ⊥) → sum_over (makes k) (passes m) ≡ solve_weighings m
unfolding sum_over passes solve_weighings makes
solve-makes k zero h = refl
solve-makes k (suc zero) h = rw (ne_eqb k 1 h)
solve-makes k (suc (suc m)) h =
    let n : ℕ = suc (suc m) in
    omega (arith, sum-append (makes k) (passes (suc m)) (passes (suc m)), solve-makes k (suc m) h, pass-makes n, makes-more k n (λ e. omega (arith, e)))

-- THE COUNT is the sum over the passes
pub plan-makes : (k : ℕ) → plan_weighings k ≡ plan_makes k
unfolding plan_weighings plan_makes sum_over passes makes solve_weighings
plan-makes zero = refl
plan-makes (suc zero) = rw (pass-makes 1) refl
plan-makes (suc (suc j)) =
    let k : ℕ = suc (suc j) in
    omega (arith, sum-append (makes k) (passes (suc j)) (passes (suc j)), solve-makes k (suc j) (λ e. omega (arith, e)), pass-makes k, makes-more k k (λ e. omega (arith, e)))
