-- Every refusal has a number of the table in 'Turned down', so none can be taken for a success, whose number is 0.
use mathlib.Core.Bool.{Bool, true, false}
use Prim.Native.Nat.{ℕ, ◌≤◌}
use native.Mathlib.Omega.{arith}
use Rattle.base.specs.declared.Refusal.{Refusal}
use Rattle.base.specs.declared.Refusal.TheVariants.{Truncated, WrongLength, WrongKind, WrongVersion, WrongK, OutOfRange, TrailingBytes, WrongSize, NoSuchStop, NotAllowed, WrongTotal, WrongForks, LostField, NoSuchFork, NoSuchName, NothingKept}
use Rattle.base.specs.Refusal.{last_number, refusal_number}
use Rattle.base.specs.Outcome.{Outcome, gives, refuses, need, and_then, giving}

-- a number of the table
pub record IsNumber (n : ℕ) : Type 0 where
  pub first : 1 ≤ n
  pub last : n ≤ last_number

-- an outcome that gives a value or refuses by such a number
pub data Numbered {A : Type 0} : Outcome A → Type 0 where
  given : (a : A) → Numbered (gives a)
  refusal : (n : ℕ) → IsNumber n → Numbered (refuses n)

-- what a definition is made of keeps that: a test, the value behind the last one, one call after another, a value made into another
pub need-numbered : {A : Type 0} (test : Bool) (n : ℕ) (rest : Outcome A) → 1 ≤ n → n ≤ last_number → Numbered rest → Numbered (need test n rest)
need-numbered true n rest a b r = r
need-numbered false n rest a b r = refusal n (record { first = a; last = b })

pub then-numbered : {A B : Type 0} (o : Outcome A) (next : A → Outcome B) → Numbered o → ((a : A) → Numbered (next a)) → Numbered (and_then o next)
then-numbered (gives a) next i r = r a
then-numbered (refuses n) next (refusal m i) r = refusal n i

pub giving-numbered : {A B : Type 0} (f : A → B) (o : Outcome A) → Numbered o → Numbered (giving f o)
giving-numbered f (gives a) i = given (f a)
giving-numbered f (refuses n) (refusal m i) = refusal n i

-- a refusal of the code has such a number
pub refusal_numbered : (r : Refusal) → IsNumber (refusal_number r)
refusal_numbered Truncated = record { first = omega arith; last = omega arith }
refusal_numbered WrongLength = record { first = omega arith; last = omega arith }
refusal_numbered WrongKind = record { first = omega arith; last = omega arith }
refusal_numbered WrongVersion = record { first = omega arith; last = omega arith }
refusal_numbered WrongK = record { first = omega arith; last = omega arith }
refusal_numbered OutOfRange = record { first = omega arith; last = omega arith }
refusal_numbered TrailingBytes = record { first = omega arith; last = omega arith }
refusal_numbered WrongSize = record { first = omega arith; last = omega arith }
refusal_numbered NoSuchStop = record { first = omega arith; last = omega arith }
refusal_numbered NotAllowed = record { first = omega arith; last = omega arith }
refusal_numbered WrongTotal = record { first = omega arith; last = omega arith }
refusal_numbered WrongForks = record { first = omega arith; last = omega arith }
refusal_numbered LostField = record { first = omega arith; last = omega arith }
refusal_numbered NoSuchFork = record { first = omega arith; last = omega arith }
refusal_numbered NoSuchName = record { first = omega arith; last = omega arith }
refusal_numbered NothingKept = record { first = omega arith; last = omega arith }
