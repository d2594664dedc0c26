-- The program's order file carries the order and the total that demand 3 speaks of.
use mathlib.Core.Path.{◌≡◌, refl, sym, ap, ◌∙◌}
use mathlib.Core.List.{List}
use Prim.Native.Nat.{ℕ}
use native.Mathlib.Omega.{arith}
use lib.ListN.{length}
use lib.Seq.{take-length}
use Rattle.base.specs.Outcome.{Outcome, gives, refuses, giving}
use Rattle.path.specs.Path.{Path, read_path}
use Rattle.jobs.specs.Limit.{small_enough}
use Rattle.jobs.specs.Plan.{wanted_file, Carries}
use Rattle.jobs.proofs.Planning.{carries}
use Rattle.plan_output.specs.Output.{program_highest, program_file, written, output_for}

-- where the path is accepted, the output is that file
pub output-carries : (input file : List ℕ) → program_file input ≡ gives file → (output_for input ≡ file) × Carries input program_highest (length file) file
unfolding output_for written
output-carries input file e = (ap written e, by (read_path input program_highest small_enough) refl e)
  where
    by : (o : Outcome Path) → read_path input program_highest small_enough ≡ o → giving wanted_file o ≡ gives file → Carries input program_highest (length file) file
    by (gives p) m x = let is : wanted_file p ≡ file = cc in carries input program_highest small_enough p (length file) file m (take-length file ∙ sym is)
    by (refuses n) m x = absurd (let z : ◌≡◌ {A = ℕ} 0 1 = cc in omega arith)
