-- Laws of the reading call: what its promise is for each outcome.
use Rattle.std.specs.Prelude.{Result, Ok}
use mathlib.Core.Path.{◌≡◌, ap, ◌∙◌}
use mathlib.Core.Bool.{true}
use native.Mathlib.Omega.{arith}
use mathlib.Core.List.{List}
use Prim.Native.Nat.{ℕ, ◌^◌}
use Rattle.base.specs.declared.Refusal.{Refusal}
use Rattle.base.specs.Refusal.{wrong_size}
use Rattle.base.specs.Outcome.{gives, refuses, said, number}
use Rattle.base.proofs.Outcome.{passed}
use Rattle.stop.specs.declared.Stop.{Stop}
use Rattle.stop.specs.Lent.{LentStops, over_stops, stops_fit}
use Rattle.path.specs.declared.Heading.{Heading}
use Rattle.path.specs.Path.{path}
use Rattle.path.specs.Reading.{read_into, stop_room, PathIsRead}

-- there is room where it passes
pub room_fits : (lent : LentStops) (k : ℕ) → stop_room lent k ≡ gives tt → stops_fit (2 ^ k) lent ≡ true
room_fits lent k e = (passed (stops_fit (2 ^ k) lent) wrong_size (gives tt) (omega arith) (ap number e)).holds

module _ (bytes : List ℕ) (highest : ℕ) (lent : LentStops) where
  pub read-refused : (r : Result Heading Refusal) (n : ℕ) → said r ≡ refuses n → read_into bytes highest lent ≡ refuses n → PathIsRead bytes highest lent lent r
  read-refused r n s e = record { said = s ∙ rw e; left = rw e }

  pub read_done : (version k : ℕ) (ss : List Stop) (afterwards : LentStops) → read_into bytes highest lent ≡ gives (path version k ss) → afterwards ≡ over_stops ss lent → PathIsRead bytes highest lent afterwards (Ok (record { version = version; k = k }))
  read_done version k ss afterwards e l = record { said = rw e; left = rw e l }
