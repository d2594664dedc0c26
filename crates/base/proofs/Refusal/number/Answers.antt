-- `base::Refusal::number` meets its contract: the variants are listed by their numbers.
use mathlib.Core.Path.{◌≡◌, refl}
use Prim.Native.Nat.{◌+◌}
use denote.Enum.Declared.{tag_of}
use Rattle.base.specs.contracts.Refusal.{the_type}
use Rattle.base.specs.declared.Refusal.{Refusal}
use Rattle.base.specs.declared.Refusal.TheVariants.{Truncated, WrongLength, WrongKind, WrongVersion, WrongK, OutOfRange, TrailingBytes, WrongSize, NoSuchStop, NotAllowed, WrongTotal, WrongForks, LostField, NoSuchFork, NoSuchName, NothingKept}
use Rattle.base.specs.Refusal.{refusal_number}
use Rattle.base.proofs.Refusal.number.Goals as goal

by_tag : (r : Refusal) → tag_of the_type r + 1 ≡ refusal_number r
by_tag Truncated = refl
by_tag WrongLength = refl
by_tag WrongKind = refl
by_tag WrongVersion = refl
by_tag WrongK = refl
by_tag OutOfRange = refl
by_tag TrailingBytes = refl
by_tag WrongSize = refl
by_tag NoSuchStop = refl
by_tag NotAllowed = refl
by_tag WrongTotal = refl
by_tag WrongForks = refl
by_tag LostField = refl
by_tag NoSuchFork = refl
by_tag NoSuchName = refl
by_tag NothingKept = refl

pub returns : goal.returns
returns c = by_tag c.args.self
