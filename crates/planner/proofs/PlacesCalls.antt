-- M-107, of the calls: what holds of an order and a total that `plan_places` returns, by its promise alone.
use mathlib.Core.Path.{◌≡◌, refl, sym, ap, ◌∙◌}
use mathlib.Core.List.{List}
use Prim.Native.Nat.{ℕ, ◌+◌, ◌*◌, ◌^◌, ◌≤◌, ◌<◌}
use native.Mathlib.Omega.{arith}
use lib.ListN.{length, take}
use lib.Seq.{take_at}
use Rattle.base.specs.Outcome.{Outcome, gives, refuses, giving, over}
use Rattle.base.proofs.Size.{pow-le-1024}
use Rattle.tree.specs.Total.{entry, total}
use Rattle.tree.specs.Wanted.{wanted, every, Shortest}
use Rattle.tree.proofs.Open.{length-wanted}
use Rattle.costs.specs.Costs.{placed_total}
use Rattle.costs.proofs.Bounds.{placed-small}
use Rattle.costs.proofs.Placed.{placed-shortest, placed-long, placed_same, placed_one}
use Rattle.std.specs.Prelude.{Ok}
use Rattle.planner.specs.Plan.{Plan, plan_order, OrderIsPlanned}
use Rattle.planner.specs.Places.{places_room, placed_plan, plan_places, OrderIsWritten}
use Rattle.planner.proofs.Judged.{when-planned, total-said}

-- an accepting call
module _ (k : ℕ) (table places order totals pivots order' totals' pivots' : List ℕ) (c : ℕ)
    (p : OrderIsWritten k (plan_places k table places (length order) (length totals) (length pivots)) order totals pivots order' totals' pivots' (Ok c)) where
  -- the entries of the two tables
  abbrev t : ℕ → ℕ → ℕ
  t = entry (2 ^ k) table

  abbrev x : ℕ → ℕ → ℕ
  x = entry (2 ^ k) places

  -- its plan is the wanted one
  places-planned : plan_places k table places (length order) (length totals) (length pivots) ≡ gives (placed_plan k table places)
  places-planned = by (places_room k (length table) (length places) (length order) (length totals) (length pivots)) p.said
    where
      by : (o : Outcome Unit) → gives c ≡ giving (λ (q : Plan). q.total) (giving (λ room. placed_plan k table places) o) → giving (λ room. placed_plan k table places) o ≡ gives (placed_plan k table places)
      by (gives u) e = refl
      by (refuses n) e = let z : ◌≡◌ {A = ℕ} 0 1 = cc in absurd (omega arith)

  -- the order that it leaves, and its total
  pub places-order : take (2 ^ k) order' ≡ wanted k (placed_total t x) every
  places-order =
      let wrote : order' ≡ over (placed_plan k table places).order order = rw places-planned at p.wrote in
      rw wrote (take_at (placed_plan k table places).order _ (2 ^ k) (placed-long k t x))

  pub places-total : c ≡ placed_total t x (wanted k (placed_total t x) every)
  places-total = let e : gives c ≡ gives (placed_plan k table places).total = rw places-planned at p.said in cc

  -- BOTH HALVES OF OPTIMALITY, and the rule for equals, for the total with the places
  pub places-shortest : Shortest k (placed_total t x) every (take (2 ^ k) order') c
  places-shortest = rw (places-order, places-total) (placed-shortest k t x)

  -- 43 bits hold every total of 32-bit entries
  pub places-small : k ≤ 10 → ((a b : ℕ) → t a b ≤ 4294967295) → ((i j : ℕ) → x i j ≤ 4294967295) → c < 8796093022208
  places-small h f g =
      let small = placed-small t x (wanted k (placed_total t x) every) f g (omega (arith, placed-long k t x, pow-le-1024 k h)) in
      omega (arith, places-total, small)

  -- 'A second table all zero gives the plain result'; and one that is d everywhere the plain order, at n times d more
  pub places_same : (d : ℕ) → ((i j : ℕ) → i < 2 ^ k → j < 2 ^ k → x i j ≡ d) → (order₂ totals₂ pivots₂ order₃ totals₃ pivots₃ : List ℕ) (c₂ w : ℕ)
      → OrderIsPlanned k (plan_order k table (length order₂) (length totals₂) (length pivots₂)) order₂ totals₂ pivots₂ order₃ totals₃ pivots₃ (Ok (record { total = c₂; weighings = w }))
      → (take (2 ^ k) order' ≡ take (2 ^ k) order₃) × (c ≡ c₂ + 2 ^ k * d)
  places_same d h order₂ totals₂ pivots₂ order₃ totals₃ pivots₃ c₂ w q =
      let o = when-planned k table order₂ totals₂ pivots₂ order₃ totals₃ pivots₃ c₂ w q in
      let wrote : order₃ ≡ over (wanted k (total t) every) order₂ = rw o at q.wrote in
      let e : gives c₂ ≡ gives (total t (wanted k (total t) every)) = rw o at (total-said k c₂ w (plan_order k table (length order₂) (length totals₂) (length pivots₂)) q.said) in
      let sum : c₂ ≡ total t (wanted k (total t) every) = cc in
      let same = placed_same k t d x h in
      let front : take (2 ^ k) order₃ ≡ wanted k (total t) every = rw wrote (take_at (wanted k (total t) every) _ (2 ^ k) (length-wanted k t)) in
      (places-order ∙ same.0 ∙ sym front, places-total ∙ same.1 ∙ ap (λ y. y + 2 ^ k * d) (sym sum))

-- 'For n = 1 the total is the single entry'
pub places-one : (table places order totals pivots order' totals' pivots' : List ℕ) (c : ℕ)
    → OrderIsWritten 0 (plan_places 0 table places (length order) (length totals) (length pivots)) order totals pivots order' totals' pivots' (Ok c) → c ≡ entry 1 places 0 0
places-one table places order totals pivots order' totals' pivots' c p =
    places-total 0 table places order totals pivots order' totals' pivots' c p ∙ placed_one (entry 1 table) (entry 1 places)
