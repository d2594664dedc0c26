-- M-107: the lengths of a call where places cost extra.
use mathlib.Core.Path.{◌≡◌, sym, ap}
use Prim.Native.Nat.{ℕ, ◌*◌, ◌^◌}
use native.Mathlib.Omega.{arith}
use lib.Dec.{eqb}
use borrow.Author.Tests.{eqb-true}
use Rattle.base.specs.Outcome.{gives, number}
use Rattle.base.proofs.Outcome.{number-first, passed}
use Rattle.planner.specs.Plan.{plan_room}
use Rattle.planner.specs.Places.{places_room}
use Rattle.planner.proofs.Judged.{Fit, judged}

module _ (k table places order totals pivots : ℕ) where
  -- the lengths of an accepted call
  pub record PlacesFit : Type 0 where
    pub fit : Fit k table order totals pivots
    pub extra : places ≡ 2 ^ k * 2 ^ k
    pub same : places_room k table places order totals pivots ≡ gives tt

  pub places-judged : number (places_room k table places order totals pivots) ≡ 0 → PlacesFit
  unfolding places_room
  places-judged e =
      let room = judged k table order totals pivots (number-first (plan_room k table order totals pivots) _ e) in
      let rest = passed (eqb places (2 ^ k * 2 ^ k)) 8 (gives tt) (omega arith) (rw room.same at e) in
      record { fit = room; extra = eqb-true _ _ rest.holds; same = rw room.same rest.same }

-- the same of a `Result` that is no refusal
pub places-ok : {k table places order totals pivots : ℕ} {u : Unit} → gives u ≡ places_room k table places order totals pivots → PlacesFit k table places order totals pivots
places-ok e = places-judged _ _ _ _ _ _ (ap number (sym e))
