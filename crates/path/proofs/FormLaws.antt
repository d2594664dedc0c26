-- Laws of a version and k that are judged.
use mathlib.Core.Path.{◌≡◌, refl, sym, ap}
use mathlib.Core.Bool.{Bool, true, false}
use Prim.Native.Nat.{ℕ, ◌≤◌}
use lib.Dec.{leb}
use borrow.Author.Tests.{leb-true}
use Rattle.base.specs.Outcome.{Outcome, gives, refuses, need}
use Rattle.base.proofs.Outcome.{gives-not-refuses}
use Rattle.path.specs.Path.{known_version}
use Rattle.path.specs.Local.{judge_form}

-- the version and k of a caller that names them itself
abbrev pub judged_form : {A : Type 0} → (version k : ℕ) → Outcome A → Outcome A
judged_form version k rest = need (known_version version) 4 (need (leb k 10) 5 rest)

-- their refusal is that of what comes after them, and where there is none they are good
pub form-refused : {A : Type 0} (version k n : ℕ) (rest : Outcome A) → refuses n ≡ judge_form version k → judged_form version k rest ≡ refuses n
form-refused version k n rest e = by (known_version version) (leb k 10) e
  where
    by : (a b : Bool) → refuses n ≡ need {A = Unit} a 4 (need b 5 (gives tt)) → need a 4 (need b 5 rest) ≡ refuses n
    by true true e = absurd (gives-not-refuses tt n (sym e))
    by true false e = let same : n ≡ 5 = cc in ap refuses (sym same)
    by false b e = let same : n ≡ 4 = cc in ap refuses (sym same)

pub form-good : (version k : ℕ) → gives tt ≡ judge_form version k → (known_version version ≡ true) × (k ≤ 10)
form-good version k e = by (known_version version) refl (leb k 10) refl e
  where
    by : (a : Bool) → known_version version ≡ a → (b : Bool) → leb k 10 ≡ b → gives tt ≡ need {A = Unit} a 4 (need b 5 (gives tt)) → (known_version version ≡ true) × (k ≤ 10)
    by true p true q e = (p, leb-true _ _ q)
    by true p false q e = absurd (gives-not-refuses tt 5 e)
    by false p b q e = absurd (gives-not-refuses tt 4 e)
