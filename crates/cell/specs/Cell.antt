-- 'The result is the count of bytes written, 0 for a good check, or the refusal number made negative.'
use Rattle.std.specs.Prelude.{◌≡◌, List, ℕ, ℤ, pos, neg_ℤ, length}
use Rattle.base.specs.Outcome.{Outcome, gives, refuses, giving, after}
use Rattle.base.specs.Buffer.{Unsigned, SharedUnsigned, at_entry, at_exit, contents}
use Rattle.jobs.specs.Plan.{plan_file, Carries}
use Rattle.jobs.specs.Check.{check_file}
use Rattle.jobs.specs.Rewrite.{rewrite_file}

-- the signed result of a job that writes so many bytes
abbrev pub result : Outcome ℕ → ℤ
result (gives count) = pos count
result (refuses number) = neg_ℤ (pos number)

-- 'path bytes to order-file bytes': the result, the output before and after, and what a result that is no refusal carries
pub record FileForC (bytes : List ℕ) (highest : ℕ) (before afterwards : List ℕ) (r : ℤ) : Type 0 where
  pub result : r ≡ result (giving length (plan_file bytes highest (length before)))
  pub left : afterwards ≡ after (plan_file bytes highest (length before)) (λ file. file) before
  pub claim : (count : ℕ) → r ≡ pos count → Carries bytes highest count afterwards

-- 'an order file checked against path bytes': '0 for a good check'
abbrev pub cell_check : (bytes : List ℕ) (highest : ℕ) (file : List ℕ) → ℤ
cell_check bytes highest file = result (giving (λ good. 0) (check_file bytes highest file))

-- 'path bytes rewritten in another version': the result, and the output before and after
pub record PathForC (bytes : List ℕ) (highest version : ℕ) (before afterwards : List ℕ) (r : ℤ) : Type 0 where
  pub result : r ≡ result (giving length (rewrite_file bytes highest version (length before)))
  pub left : afterwards ≡ after (rewrite_file bytes highest version (length before)) (λ path. path) before

-- the same of the calls' parameters
abbrev pub CellPlans : SharedUnsigned → ℕ → Unsigned → ℤ → Type 0
CellPlans path highest out r = FileForC (contents path) highest (at_entry out) (at_exit out) r

abbrev pub CellRewrites : SharedUnsigned → ℕ → ℕ → Unsigned → ℤ → Type 0
CellRewrites path highest version out r = PathForC (contents path) highest version (at_entry out) (at_exit out) r
