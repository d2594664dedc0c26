-- M-104, of the calls: the lengths of a call of `tour`, and what holds of the order and the total that it returns.
use mathlib.Core.Path.{◌≡◌, sym, refl, ap, ◌∙◌}
use mathlib.Core.List.{List, [], ◌∷◌}
use Prim.Native.Nat.{ℕ, ◌^◌, ◌≤◌}
use native.Mathlib.Omega.{arith}
use lib.Dec.{leb}
use lib.ListN.{length, take}
use lib.Seq.{take_at}
use borrow.Author.Tests.{leb-true}
use Rattle.base.specs.Outcome.{Outcome, gives, refuses, giving, number, over}
use Rattle.base.proofs.Outcome.{passed}
use Rattle.tree.specs.Order.{order_of}
use Rattle.tree.specs.Total.{entry, total}
use Rattle.tree.specs.Wanted.{wanted, every, Shortest}
use Rattle.tree.proofs.Open.{wanted-shortest}
use Rattle.costs.specs.Costs.{closed_total}
use Rattle.costs.proofs.Tour.{tour-shortest, tour-long, tour-one, tour-two, closed-above}
use Rattle.std.specs.Prelude.{Ok}
use Rattle.planner.specs.Plan.{Plan, plan_room, plan_order, OrderIsPlanned}
use Rattle.planner.specs.Places.{OrderIsWritten}
use Rattle.planner.specs.Tour.{max_tour_k, tour_room, tour_plan, plan_tour}
use Rattle.planner.proofs.Judged.{Fit, judged, when-planned, total-said}

-- the lengths of an accepted call
pub record TourFit (k table order totals pivots : ℕ) : Type 0 where
  pub few : k ≤ 7
  pub fit : Fit k table order totals pivots
  pub same : tour_room k table order totals pivots ≡ gives tt

pub tour-judged : (k table order totals pivots : ℕ) → number (tour_room k table order totals pivots) ≡ 0 → TourFit k table order totals pivots
unfolding tour_room
tour-judged k table order totals pivots e =
    let first = passed (leb k max_tour_k) 5 (plan_room k table order totals pivots) (omega arith) e in
    let room = judged k table order totals pivots first.goes_on in
    record { few = leb-true _ _ first.holds; fit = room; same = first.same ∙ room.same }

-- the same of a `Result` that is no refusal
pub tour-ok : {k table order totals pivots : ℕ} {u : Unit} → gives u ≡ tour_room k table order totals pivots → TourFit k table order totals pivots
tour-ok e = tour-judged _ _ _ _ _ (ap number (sym e))

-- an accepting call
module _ (k : ℕ) (table order totals pivots order' totals' pivots' : List ℕ) (c : ℕ)
    (p : OrderIsWritten k (plan_tour k table (length order) (length totals) (length pivots)) order totals pivots order' totals' pivots' (Ok c)) where
  -- the entries of the table
  abbrev t : ℕ → ℕ → ℕ
  t = entry (2 ^ k) table

  -- its plan is the wanted one
  tour-planned : plan_tour k table (length order) (length totals) (length pivots) ≡ gives (tour_plan k table)
  tour-planned = by (tour_room k (length table) (length order) (length totals) (length pivots)) p.said
    where
      by : (o : Outcome Unit) → gives c ≡ giving (λ (q : Plan). q.total) (giving (λ room. tour_plan k table) o) → giving (λ room. tour_plan k table) o ≡ gives (tour_plan k table)
      by (gives u) e = refl
      by (refuses n) e = let z : ◌≡◌ {A = ℕ} 0 1 = cc in absurd (omega arith)

  -- the order that it leaves, and its closed total
  pub tour-order : take (2 ^ k) order' ≡ wanted k (closed_total t) every
  tour-order =
      let wrote : order' ≡ over (tour_plan k table).order order = rw tour-planned at p.wrote in
      rw wrote (take_at (tour_plan k table).order _ (2 ^ k) (tour-long k t))

  pub tour-total : c ≡ closed_total t (wanted k (closed_total t) every)
  tour-total = let e : gives c ≡ gives (tour_plan k table).total = rw tour-planned at p.said in cc

  -- 'Both halves of the optimality promise apply to it with the closed total', and so does the rule for equals
  pub tour-shortest-call : Shortest k (closed_total t) every (take (2 ^ k) order') c
  tour-shortest-call = rw (tour-order, tour-total) (tour-shortest k t)

  -- the least closed total is at most that of any allowed order closed
  pub tour-least : (F : ℕ) → c ≤ closed_total t (order_of k F)
  tour-least F = tour-shortest-call.least F refl

  -- and at least the least open one: closing an order adds a move
  pub tour-above : (order₂ totals₂ pivots₂ order₃ totals₃ pivots₃ : List ℕ) (c₂ w : ℕ)
      → OrderIsPlanned k (plan_order k table (length order₂) (length totals₂) (length pivots₂)) order₂ totals₂ pivots₂ order₃ totals₃ pivots₃ (Ok (record { total = c₂; weighings = w })) → c₂ ≤ c
  tour-above order₂ totals₂ pivots₂ order₃ totals₃ pivots₃ c₂ w q =
      let o = when-planned k table order₂ totals₂ pivots₂ order₃ totals₃ pivots₃ c₂ w q in
      let e : gives c₂ ≡ gives (total t (wanted k (total t) every)) = rw o at (total-said k c₂ w (plan_order k table (length order₂) (length totals₂) (length pivots₂)) q.said) in
      let sum : c₂ ≡ total t (wanted k (total t) every) = cc in
      let s = tour-shortest k t in
      let open-least : total t (wanted k (total t) every) ≤ total t (order_of k s.forks) = (wanted-shortest k t).least s.forks refl in
      omega (arith, sum, open-least, tour-total, ap (total t) s.given, closed-above t (wanted k (closed_total t) every))

-- 'For k = 1 the two totals are equal, so the tour is 1, 0'
pub tour-pair : (table order totals pivots order' totals' pivots' : List ℕ) (c : ℕ)
    → OrderIsWritten 1 (plan_tour 1 table (length order) (length totals) (length pivots)) order totals pivots order' totals' pivots' (Ok c) → take 2 order' ≡ 1 ∷ 0 ∷ []
tour-pair table order totals pivots order' totals' pivots' c p = tour-order 1 table order totals pivots order' totals' pivots' c p ∙ tour-two (entry 2 table)

-- 'for n = 1 it is 0'
pub tour-single : (table order totals pivots order' totals' pivots' : List ℕ) (c : ℕ)
    → OrderIsWritten 0 (plan_tour 0 table (length order) (length totals) (length pivots)) order totals pivots order' totals' pivots' (Ok c) → c ≡ 0
tour-single table order totals pivots order' totals' pivots' c p = tour-total 0 table order totals pivots order' totals' pivots' c p ∙ tour-one (entry 1 table)
