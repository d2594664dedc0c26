-- A call that writes the order of an outcome: refused and accepted, it keeps its promise.
use mathlib.Core.Path.{◌≡◌, sym, ap, ap₂, ◌∙◌}
use mathlib.Core.List.{List}
use Prim.Native.Nat.{ℕ, ◌+◌, ◌-◌, ◌^◌}
use lib.ListN.{length, replicate}
use Rattle.std.specs.Prelude.{Ok, Err}
use Rattle.base.specs.declared.Refusal.{Refusal}
use Rattle.base.specs.Refusal.{refusal_number}
use Rattle.base.specs.Outcome.{Outcome, gives, refuses, over}
use Rattle.walks.specs.Best.{at, plan}
use Rattle.tree.specs.Total.{entry}
use Rattle.tree.specs.Wanted.{backward, wanted, every}
use Rattle.costs.specs.Costs.{closed_total}
use Rattle.tree.proofs.Backward.{backward-same}
use Rattle.rows.specs.Costing.{Costing}
use Rattle.planner.specs.declared.Planned.{Planned}
use Rattle.planner.specs.Method.{all_walks, LeftByMethod}
use Rattle.planner.specs.Weighings.{plan_makes}
use Rattle.planner.specs.Plan.{Plan, reported, PlanIsWritten}
use Rattle.planner.specs.Tour.{tour_plan, LeftByTour}
use Rattle.planner.proofs.Weighings.{plan-makes}

-- a refused call: nothing is written
pub written-none : {A : Type 0} {answer : Plan → A} {k : ℕ} {o : Outcome Plan} {order totals pivots : List ℕ} (e : Refusal) → o ≡ refuses (refusal_number e)
    → PlanIsWritten answer k o order totals pivots order totals pivots (Err e)
written-none e f = record { said = rw f; wrote = rw f; cleared_totals = rw f; cleared_pivots = rw f }

module _ {A : Type 0} {answer : Plan → A} {k : ℕ} {o : Outcome Plan} {order totals pivots order' totals' pivots' : List ℕ} where
  -- an accepted one
  pub written-over : {n : ℕ} {found : List ℕ} {a : A} (p : Plan) → n ≡ 2 ^ k → o ≡ gives p → found ≡ p.order → a ≡ answer p → order' ≡ over found order
      → totals' ≡ over (replicate (n + n) 0) totals → pivots' ≡ over (replicate (n + n) 0) pivots → PlanIsWritten answer k o order totals pivots order' totals' pivots' (Ok a)
  written-over p e g same said wrote t m = record {
    said = rw g (ap gives said);
    wrote = rw g (wrote ∙ ap (λ x. over x order) same);
    cleared_totals = rw g (t ∙ ap (λ x. over (replicate (x + x) 0) totals) e);
    cleared_pivots = rw g (m ∙ ap (λ x. over (replicate (x + x) 0) pivots) e);
  }

  -- WHAT THE METHOD LEAVES is the plan that is wanted, if that is the best walk by the costs
  pub written-best : {C : Costing} {a : A} (p : Plan) (r : Planned) → C.stops ≡ 2 ^ k → o ≡ gives p → length p.order ≡ 2 ^ k → plan (all_walks C) (C.stops - 1) ≡ at p.total (backward p.order)
      → (r.total ≡ p.total → r.weighings ≡ plan_makes k → a ≡ answer p) → LeftByMethod C k order totals pivots order' totals' pivots' r
      → PlanIsWritten answer k o order totals pivots order' totals' pivots' (Ok a)
  written-best p r e g long found answers m =
      let same : at r.total (backward m.found) ≡ at p.total (backward p.order) = sym m.best.planned ∙ found in
      let sum : r.total ≡ p.total = cc in
      let back : backward m.found ≡ backward p.order = cc in
      written-over p e g (backward-same m.found p.order (m.best.long ∙ e ∙ sym long) back) (answers sum (m.counted ∙ plan-makes k)) m.wrote m.cleared m.unmarked

-- the total and the weighings make the answer of a plan
pub answers-plan : (k : ℕ) (p : Plan) (r : Planned) → r.total ≡ p.total → r.weighings ≡ plan_makes k → r ≡ reported k p
answers-plan k p r = ap₂ made
  where
    made : ℕ → ℕ → Planned
    made t w = record { total = t; weighings = w }

-- and so is what is left of a tour
pub written-tour : {n k : ℕ} {table order totals pivots order' totals' pivots' : List ℕ} {o : Outcome Plan} {c : ℕ} → n ≡ 2 ^ k → o ≡ gives (tour_plan k table)
    → LeftByTour n k table order totals pivots order' totals' pivots' c → PlanIsWritten (λ p. p.total) k o order totals pivots order' totals' pivots' (Ok c)
written-tour {k = k} {table} e g t =
    let f = t.best in
    let order = f.tour ∙ ap (λ m. wanted k (closed_total (entry m table)) every) e in
    let sum = f.total ∙ ap (λ m. closed_total (entry m table) (wanted k (closed_total (entry m table)) every)) e in
    written-over (tour_plan k table) e g order sum t.wrote t.cleared t.unmarked
