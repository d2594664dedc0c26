-- Sizes up to k = 6, and a job's own tests of k.
use mathlib.Core.Path.{◌≡◌, ap}
use Prim.Native.Nat.{ℕ, ◌*◌, ◌^◌, ◌≤◌, ◌<◌}
use native.Mathlib.Nat.{mul-le-mul_left, mul-le-mul_right, le_trans}
use native.Mathlib.Omega.{arith}
use lib.Pow.{pow_mono}
use lib.Dec.{leb}
use borrow.Author.Tests.{le-leb, lt-leb, leb-true}
use Rattle.base.specs.Size.{stop_count}
use Rattle.base.proofs.Size.{stop_count-pow}
use Rattle.base.specs.Refusal.{wrong_size}
use mathlib.Core.Bool.{Bool, true, false}
use Rattle.base.specs.Outcome.{gives, refuses, need, number}
use Rattle.base.proofs.Outcome.{passed}
use Rattle.order_file.specs.File.{file_size}
use Rattle.jobs.specs.Limit.{job_max_k, small_enough}
use Rattle.jobs.specs.Plan.{plan_test}

-- at most 64 stops
pub pow-le-64 : (k : ℕ) → k ≤ job_max_k → 2 ^ k ≤ 64
pow-le-64 k h = pow_mono {i = k} {j = 6} h

-- and 4,096 entries
pub square-le-4096 : (n : ℕ) → n ≤ 64 → n * n ≤ 4096
square-le-4096 n h = le_trans (mul-le-mul_left n h) (mul-le-mul_right 64 h)

-- the same of the count as code has it
pub count-le-64 : (k : ℕ) → k ≤ job_max_k → stop_count k ≤ 64
count-le-64 k h = omega (arith, stop_count-pow k (omega arith), pow-le-64 k h)

pub count-square : (k : ℕ) → k ≤ job_max_k → stop_count k * stop_count k ≤ 4096
count-square k h = square-le-4096 (stop_count k) (count-le-64 k h)

-- what code goes by for its bounds
pub ruleset limits = (pow-le-64, count-le-64, count-square)

-- the tests
pub small-passes : (k : ℕ) → k ≤ job_max_k → small_enough k ≡ gives tt
small-passes k h = rw (le-leb _ _ h)

pub passes-small : (k : ℕ) → small_enough k ≡ gives tt → k ≤ job_max_k
passes-small k e = leb-true _ _ (passed (leb k job_max_k) wrong_size (gives tt) (omega arith) (ap number e)).holds

module _ (room k : ℕ) where
  pub plan-large : (n : ℕ) → small_enough k ≡ refuses n → plan_test room k ≡ refuses n
  plan-large n e = by (leb k job_max_k) e
    where
      by : (b : Bool) → need {A = Unit {0}} b 8 (gives (tt {0})) ≡ refuses n → need {A = Unit {0}} b 8 (need (leb (file_size (2 ^ k)) room) 8 (gives (tt {0}))) ≡ refuses n
      by true e = let z : ◌≡◌ {A = ℕ} 0 1 = cc in absurd (omega arith)
      by false e = e

  pub plan-short : k ≤ job_max_k → room < file_size (2 ^ k) → plan_test room k ≡ refuses 8
  plan-short h s = rw (le-leb _ _ h, lt-leb _ _ s)

  pub plan-passes : k ≤ job_max_k → file_size (2 ^ k) ≤ room → plan_test room k ≡ gives tt
  plan-passes h s = rw (le-leb _ _ h, le-leb _ _ s)
