-- A job's answer as a signed number keeps what the job promises.
use mathlib.Core.Path.{◌≡◌, refl, sym, ap, subst, ◌∙◌}
use mathlib.Core.List.{List}
use Prim.Native.Nat.{ℕ, ◌<◌}
use native.Mathlib.Omega.{arith}
use lib.IntN.{ℤ, pos}
use lib.ListN.{length}
use Rattle.std.specs.Prelude.{Result, Ok, Err}
use Rattle.base.specs.declared.Refusal.{Refusal}
use Rattle.base.specs.Refusal.{refusal_number}
use Rattle.base.specs.Outcome.{Outcome, gives, refuses, giving, said}
use Rattle.base.proofs.Numbered.{refusal, refusal_numbered}
use Rattle.signed.specs.Result.{nothing, itself, signed, largest}
use Rattle.signed.proofs.Result.{value-given, sign-tells}
use Rattle.path.specs.Written.{BytesAreWritten}
use Rattle.jobs.specs.Plan.{plan_file, Carries, FileIsPlanned}
use Rattle.jobs.specs.Rewrite.{rewrite_file}
use Rattle.jobs.specs.Check.{check_file}
use Rattle.jobs.proofs.Together.{plan-size, rewrite-size}
use Rattle.cell.specs.Cell.{result, FileForC, cell_check, PathForC}

-- the count of bytes that a signed result has room for, or the refusal, is the result
counted : (o : Outcome (List ℕ)) → ((bytes : List ℕ) → o ≡ gives bytes → length bytes < largest) → signed itself (giving length o) ≡ result (giving length o)
unfolding signed
counted (gives bytes) small = value-given (length bytes) (small bytes refl)
counted (refuses n) small = refl

-- 0 for what is good, or the refusal, is the result
good-counted : (o : Outcome Unit) → signed nothing o ≡ result (giving (λ good. 0) o)
unfolding signed
good-counted (gives u) = value-given 0 (omega arith)
good-counted (refuses n) = refl

-- ---- planning

module _ (bytes : List ℕ) (highest : ℕ) (before afterwards : List ℕ) (a : Result ℕ Refusal) (planned : FileIsPlanned bytes highest before afterwards a) (r : ℤ) (answered : r ≡ signed itself (said a)) where
  plan-result : r ≡ result (giving length (plan_file bytes highest (length before)))
  plan-result =
      answered ∙ ap (signed itself) planned.said
      ∙ counted (plan_file bytes highest (length before)) (λ file x. omega (arith, plan-size bytes highest (length before) file x))

  -- a result that is no refusal is the count that the job answered
  plan-carries : (b : Result ℕ Refusal) → a ≡ b → (count : ℕ) → result (said b) ≡ pos count → Carries bytes highest count afterwards
  plan-carries (Ok size) e count x = let is : size ≡ count = cc in subst (λ (n : ℕ). Carries bytes highest n afterwards) is (planned.claim size e)
  plan-carries (Err reason) e count x =
      let n = refusal_number reason in
      absurd (sign-tells {A = ℕ} (refuses n) n count (refusal n (refusal_numbered reason)) refl x)

  pub plan-answered : FileForC bytes highest before afterwards r
  plan-answered = record {
    result = plan-result;
    left = planned.left;
    claim = λ count x. plan-carries a refl count (ap result planned.said ∙ sym plan-result ∙ x);
  }

-- ---- rewriting

pub rewrite-answered : (bytes : List ℕ) (highest version : ℕ) (before afterwards : List ℕ) (a : Result ℕ Refusal) (r : ℤ) → BytesAreWritten (rewrite_file bytes highest version (length before)) before afterwards a
    → r ≡ signed itself (said a) → PathForC bytes highest version before afterwards r
rewrite-answered bytes highest version before afterwards a r written answered = record {
  result =
      answered ∙ ap (signed itself) written.said
      ∙ counted (rewrite_file bytes highest version (length before)) (λ new x. omega (arith, rewrite-size bytes highest version (length before) new x));
  left = written.left;
}

-- ---- checking

pub check-answered : (bytes : List ℕ) (highest : ℕ) (file : List ℕ) (a : Result Unit Refusal) (r : ℤ) → said a ≡ check_file bytes highest file → r ≡ signed nothing (said a) → r ≡ cell_check bytes highest file
check-answered bytes highest file a r judged answered = answered ∙ ap (signed nothing) judged ∙ good-counted (check_file bytes highest file)
