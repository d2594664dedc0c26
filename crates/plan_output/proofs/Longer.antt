-- More bytes than the longest accepted path cannot change the output: the program reads one byte more than that and no further.
use mathlib.Core.Path.{◌≡◌, ap}
use mathlib.Core.List.{List}
use Prim.Native.Nat.{ℕ, suc}
use lib.ListN.{take}
use Rattle.base.specs.Outcome.{Outcome, giving}
use Rattle.path.specs.Path.{Path}
use Rattle.path.proofs.Prefix.{longer-read}
use Rattle.jobs.specs.Limit.{job_max_k, small_enough}
use Rattle.jobs.specs.Plan.{wanted_file}
use Rattle.jobs.proofs.Limits.{passes-small}
use Rattle.plan_output.specs.Output.{program_highest, written, output_for}

-- the bytes of the longest path of k up to 6, in the newest version
abbrev pub longest_path : ℕ
longest_path = 1420

-- THE LAW: the first bytes, one more than the longest path has, settle the output
pub longer-same : (input : List ℕ) → output_for (take (suc longest_path) input) ≡ output_for input
unfolding output_for
longer-same input = ap (λ (o : Outcome Path). written (giving wanted_file o)) (longer-read job_max_k input program_highest small_enough passes-small)
