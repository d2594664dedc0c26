-- Each job refuses by a number of the table.
use mathlib.Core.List.{List}
use Prim.Native.Nat.{ℕ, ◌^◌}
use native.Mathlib.Omega.{arith}
use lib.Dec.{leb}
use Rattle.base.proofs.Numbered.{Numbered, given, need-numbered, then-numbered, giving-numbered}
use Rattle.path.specs.Path.{read_path, known_version}
use Rattle.path.proofs.Numbers.{path-numbered, written-numbered}
use Rattle.times.specs.Table.{entry_of}
use Rattle.order_file.specs.File.{file_size}
use Rattle.order_file.specs.Reading.{judge_file}
use Rattle.order_file.proofs.Numbers.{file-numbered}
use Rattle.jobs.specs.Limit.{job_max_k, small_enough}
use Rattle.jobs.specs.Plan.{plan_test, wanted_file, plan_file}
use Rattle.jobs.specs.Check.{check_file}
use Rattle.jobs.specs.Rewrite.{rewrite_file}

test-numbered : (k : ℕ) → Numbered (small_enough k)
test-numbered k = need-numbered (leb k job_max_k) 8 _ (omega arith) (omega arith) (given tt)

pub plan-numbered : (bytes : List ℕ) (highest room : ℕ) → Numbered (plan_file bytes highest room)
plan-numbered bytes highest room =
    giving-numbered wanted_file (read_path bytes highest (plan_test room))
    (path-numbered bytes highest (plan_test room) (λ k. need-numbered (leb k job_max_k) 8 _ (omega arith) (omega arith) (need-numbered (leb (file_size (2 ^ k)) room) 8 _ (omega arith) (omega arith) (given tt))))

pub check-numbered : (bytes : List ℕ) (highest : ℕ) (file : List ℕ) → Numbered (check_file bytes highest file)
unfolding check_file
check-numbered bytes highest file =
    then-numbered (read_path bytes highest small_enough) _ (path-numbered bytes highest small_enough test-numbered)
    (λ p. giving-numbered _ (judge_file p.k (entry_of p.stops) file) (file-numbered p.k (entry_of p.stops) file))

pub rewrite-numbered : (bytes : List ℕ) (highest version room : ℕ) → Numbered (rewrite_file bytes highest version room)
unfolding rewrite_file
rewrite-numbered bytes highest version room =
    then-numbered (read_path bytes highest small_enough) _ (path-numbered bytes highest small_enough test-numbered)
    (λ p. need-numbered (known_version version) 4 _ (omega arith) (omega arith) (written-numbered version p.k room p.stops))
