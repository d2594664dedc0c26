-- What k alone foretells is what a plan takes, for every k.
use mathlib.Core.Path.{◌≡◌, sym, ◌∙◌}
use mathlib.Core.List.{List}
use Prim.Native.Nat.{ℕ, zero, suc, ◌+◌, ◌*◌, ◌-◌, ◌^◌, ◌≤◌}
use native.Mathlib.Nat.{pow-succ'}
use native.Mathlib.Omega.{arith}
use lib.ListN.{length, length-replicate}
use borrow.Author.Tests.{le-leb}
use Rattle.base.specs.Outcome.{gives, said}
use Rattle.std.specs.Prelude.{Ok}
use Rattle.planner.specs.declared.Foretold.{Foretold}
use Rattle.planner.specs.Method.{solve_weighings, plan_weighings}
use Rattle.planner.specs.Weighings.{pass_makes, plan_makes, foretold_weighings, foretold_bytes, foretold}
use Rattle.planner.specs.Plan.{plan_order, cleared, OrderIsPlanned}
use Rattle.planner.proofs.Weighings.{pass-makes, plan-makes}
use Rattle.planner.proofs.Judged.{when-planned, weighings-said}

-- the weighings of halving a block of 2^m places, m = j + 1, whose last place is fixed: (m−1) × 2^(2m)
solve-sum : (j : ℕ) → solve_weighings (suc j) ≡ j * 2 ^ (2 * suc j)
unfolding solve_weighings pass_makes
solve-sum zero = omega arith
solve-sum (suc j) =
    let x : ℕ = 2 ^ (2 * suc j) in
    let first : 2 * suc (suc j) - 1 ≡ suc (2 * suc j) = omega arith in
    let second : 2 * suc (suc j) ≡ suc (suc (2 * suc j)) = omega arith in
    rw (pass-makes (suc (suc j)), first, second, pow-succ' 2 (suc (2 * suc j)), pow-succ' 2 (2 * suc j)) (omega (arith, solve-sum j))

-- the formula is the sum over the passes
pub foretold-sum : (k : ℕ) → foretold_weighings k ≡ plan_makes k
unfolding foretold_weighings plan_weighings solve_weighings pass_makes
foretold-sum zero = plan-makes zero
foretold-sum (suc zero) = rw (pass-makes 1) at (plan-makes 1)
foretold-sum (suc (suc j)) = omega (arith, plan-makes (suc (suc j)), solve-sum (suc j))

-- up to k = 10 both numbers are given
pub foretold-given : (k b w : ℕ) → k ≤ 10 → b ≡ foretold_bytes k → w ≡ foretold_weighings k → said {A = Foretold} (Ok (record { bytes = b; weighings = w })) ≡ foretold k
unfolding foretold
foretold-given k b w h e f = rw (le-leb _ _ h, e, f)

-- 20n bytes
pub bytes-are : (k n : ℕ) → n ≡ 2 ^ k → 20 * n ≡ foretold_bytes k
unfolding foretold_bytes
bytes-are k n e = rw e

-- the bytes are those of the two lent buffers: 2n numbers of 64 bits and 2n of 16
pub foretold-bytes : (k : ℕ) → foretold_bytes k ≡ length (cleared k) * 8 + length (cleared k) * 2
unfolding foretold_bytes
foretold-bytes k = rw (length-replicate {A = ℕ} (2 ^ k + 2 ^ k) 0) (omega arith)

-- OF THE CALLS: a plan that is accepted reports as many weighings as its k foretold
pub plan-foretold : (k : ℕ) (table order totals pivots order' totals' pivots' : List ℕ) (c w : ℕ)
    → OrderIsPlanned k (plan_order k table (length order) (length totals) (length pivots)) order totals pivots order' totals' pivots' (Ok (record { total = c; weighings = w })) → w ≡ foretold_weighings k
plan-foretold k table order totals pivots order' totals' pivots' c w p =
    let o = when-planned k table order totals pivots order' totals' pivots' c w p in
    let e : gives w ≡ gives (plan_makes k) = rw o at (weighings-said k c w (plan_order k table (length order) (length totals) (length pivots)) p.said) in
    let same : w ≡ plan_makes k = cc in
    same ∙ sym (foretold-sum k)
