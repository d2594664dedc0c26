-- What the private functions promise each other.
use Rattle.std.specs.Prelude.{◌≡◌, List, ℕ, ◌*◌, ◌^◌, ◌≤◌, length, Result}
use Rattle.base.specs.declared.Refusal.{Refusal}
use Rattle.base.specs.Outcome.{Outcome, giving, and_then, done, said, after}
use Rattle.path.specs.Path.{PathHead, path, read_head, body_after_head}
use Rattle.times.specs.InPath.{time_in}
use Rattle.order_file.specs.File.{file_size}
use Rattle.order_file.specs.Reading.{judge_file}
use Rattle.jobs.specs.Limit.{job_max_k, small_enough}
use Rattle.jobs.specs.Plan.{wanted_file}

-- the head of a job's path, and directly after it the job's own test of k
abbrev pub job_head : (bytes : List ℕ) (highest : ℕ) → Outcome PathHead
job_head bytes highest = and_then (read_head bytes highest) (λ h. giving (λ small. h) (small_enough h.k))

-- a k up to 6, a table of n², and room for the file
pub record Ready (k table out : ℕ) : Type 0 where
  pub small : k ≤ job_max_k
  pub square : table ≡ 2 ^ k * 2 ^ k
  pub room : file_size (2 ^ k) ≤ out

-- the file of the wanted order for the stops after a head
abbrev pub file_after_head : (bytes : List ℕ) (version k : ℕ) → Outcome (List ℕ)
file_after_head bytes version k = giving (λ ss. wanted_file (path version k ss)) (body_after_head bytes version k)

-- a file that is written, of any outcome
pub record FileIsLeft (o : Outcome (List ℕ)) (before afterwards : List ℕ) (r : Result ℕ Refusal) : Type 0 where
  pub said : said r ≡ giving length o
  pub left : afterwards ≡ after o (λ file. file) before

-- a file checked by the stops after a head and the times of their bytes
abbrev pub check_against : (bytes : List ℕ) (version k : ℕ) (file : List ℕ) → Outcome Unit
check_against bytes version k file = and_then (body_after_head bytes version k) (λ ss. done (judge_file k (time_in version bytes) file))
