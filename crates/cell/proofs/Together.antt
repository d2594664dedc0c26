-- The controller's calls together, and beside a run of the library's three calls.
use mathlib.Core.Path.{◌≡◌, refl, sym, ap, ◌∙◌}
use mathlib.Core.Bool.{true}
use mathlib.Core.List.{List}
use Prim.Native.Nat.{ℕ, ◌^◌, ◌≤◌}
use lib.IntN.{ℤ, pos}
use lib.ListN.{length, take}
use Rattle.base.specs.Outcome.{Outcome, gives, refuses, giving, after}
use Rattle.base.proofs.Outcome.{over-front}
use Rattle.base.proofs.Numbered.{Numbered}
use Rattle.signed.proofs.Result.{sign-tells}
use Rattle.path.specs.Path.{known_version}
use Rattle.orders.specs.Allowed.{forks_of}
use Rattle.orders.specs.Bits.{bit_string}
use Rattle.order_file.specs.File.{order_file}
use Rattle.path_plan.specs.Calls.{AcceptedRun}
use Rattle.jobs.specs.Plan.{plan_file}
use Rattle.jobs.specs.Rewrite.{rewrite_file}
use Rattle.jobs.proofs.Numbers.{plan-numbered, rewrite-numbered}
use Rattle.jobs.proofs.Together.{check-planned, run-filed, rewrite-same, SamePath}
use Rattle.cell.specs.Cell.{result, FileForC, cell_check, PathForC}

-- what was written where the result is a count: those first bytes of the output
wrote : (o : Outcome (List ℕ)) (before afterwards : List ℕ) (r : ℤ) (count : ℕ) → Numbered o → r ≡ result (giving length o) → afterwards ≡ after o (λ bytes. bytes) before → r ≡ pos count → o ≡ gives (take count afterwards)
wrote (gives bytes) before afterwards r count i e left x =
    let same : pos (length bytes) ≡ pos count = sym e ∙ x in
    let size : length bytes ≡ count = cc in
    ap gives (sym (ap (take count) left ∙ over-front count bytes before size))
wrote (refuses n) before afterwards r count i e left x = absurd (sign-tells (refuses n) n count i refl (sym e ∙ x))

module _ (bytes : List ℕ) (highest : ℕ) (out out' : List ℕ) (r : ℤ) (count : ℕ) (planned : FileForC bytes highest out out' r) (accepted : r ≡ pos count) where
  file : plan_file bytes highest (length out) ≡ gives (take count out')
  file = wrote (plan_file bytes highest (length out)) out out' r count (plan-numbered bytes highest (length out)) planned.result planned.left accepted

  -- `cell_check` accepts what `cell_plan` wrote
  pub check-accepts : cell_check bytes highest (take count out') ≡ pos 0
  check-accepts = rw (check-planned bytes highest (length out) (take count out') file)

  -- 'its order file carries that order and total': those of a run of the three calls on the same bytes, also where the two know other versions
  pub carries-run : (known version k : ℕ) (order : List ℕ) (total : ℕ) → AcceptedRun bytes known version k order total → take count out' ≡ order_file k total (take (2 ^ k) order) (bit_string k (forks_of k (take (2 ^ k) order)))
  carries-run known version k order total run = run-filed bytes known highest version k (length out) order (take count out') total run file

-- what `cell_rewrite` wrote means the same stops to a caller that knows its version
pub rewrite-keeps : (bytes : List ℕ) (highest version : ℕ) (out out' : List ℕ) (r : ℤ) (count known-to : ℕ) → PathForC bytes highest version out out' r → r ≡ pos count → known_version known-to ≡ true → version ≤ known-to → SamePath bytes highest (take count out') known-to version
rewrite-keeps bytes highest version out out' r count known-to p accepted known le =
    rewrite-same bytes highest version (length out) (take count out') known-to
    (wrote (rewrite_file bytes highest version (length out)) out out' r count (rewrite-numbered bytes highest version (length out)) p.result p.left accepted) known le
