-- 'These calls take k up to 6; a larger k is 8, found directly after k.'
use Rattle.std.specs.Prelude.{ℕ, leb}
use Rattle.base.specs.Refusal.{wrong_size}
use Rattle.base.specs.Outcome.{Outcome, gives, need}

-- the largest k of a job
abbrev pub job_max_k : ℕ
job_max_k = 6

-- a job's own test of k
abbrev pub small_enough : ℕ → Outcome Unit
small_enough k = need (leb k job_max_k) wrong_size (gives tt)
