-- M-106, of the calls: two calls that accept, where the second table has the same amount more in every entry off the diagonal, or no entry off it is
-- smaller. The diagonals may hold anything, and k, the lengths and the range of the entries are what the calls accepted.
use mathlib.Core.Path.{◌≡◌, sym, ◌∙◌}
use mathlib.Core.List.{List}
use Prim.Native.Nat.{ℕ, zero, suc, ◌+◌, ◌*◌, ◌^◌, ◌≤◌, ◌<◌}
use native.Mathlib.Omega.{arith}
use lib.ListN.{length, take}
use lib.Seq.{take_at}
use Rattle.base.specs.Outcome.{gives, over}
use Rattle.tree.specs.Total.{entry, total}
use Rattle.tree.specs.Open.{wanted}
use Rattle.tree.proofs.Open.{length-wanted}
use Rattle.tree.specs.Wanted.{every}
use Rattle.tree.specs.Wanted as any
use Rattle.costs.specs.Costs.{placed_total, closed_total, Slower, Raised}
use Rattle.costs.proofs.Slower.{open-slower, placed-slower, tour-slower, tour-slower-one}
use Rattle.costs.proofs.Raised.{open-raised, placed-raised, tour-raised}
use Rattle.costs.proofs.Placed.{placed-more}
use Rattle.planner.specs.Plan.{plan_order}
use Rattle.planner.proofs.Judged.{when-planned, total-said}
use Rattle.planner.proofs.PlacesCalls.{places-order, places-total}
use Rattle.planner.proofs.TourCalls.{tour-order, tour-total}
use Rattle.slower.specs.Accepted.{Planned, Toured, Placed}
use Rattle.slower.specs.Growth.{order_moves, tour_moves, Grows}

-- ---- the planner

module _ {k : ℕ} {table o : List ℕ} {c : ℕ} (p : Planned k table o c) where
  -- what an accepted call left and answered
  plan-order : take (2 ^ k) o ≡ wanted k (entry (2 ^ k) table)
  plan-order =
      let l = p.lent in
      let t : ℕ → ℕ → ℕ = entry (2 ^ k) table in
      let wrote : o ≡ over (wanted k t) l.order = rw (when-planned k table l.order l.totals l.pivots o l.totals' l.pivots' c p.weighings p.promise) at p.promise.wrote in
      rw wrote (take_at (wanted k t) _ (2 ^ k) (length-wanted k t))

  plan-total : c ≡ total (entry (2 ^ k) table) (wanted k (entry (2 ^ k) table))
  plan-total =
      let l = p.lent in
      let e : gives c ≡ gives (total (entry (2 ^ k) table) (wanted k (entry (2 ^ k) table)))
      = rw (when-planned k table l.order l.totals l.pivots o l.totals' l.pivots' c p.weighings p.promise) at
      (total-said k c p.weighings (plan_order k table (length l.order) (length l.totals) (length l.pivots)) p.promise.said) in
      cc

module _ (k : ℕ) (table table₂ o o₂ : List ℕ) (c c₂ : ℕ) (p : Planned k table o c) (q : Planned k table₂ o₂ c₂) where
  -- 'if the same amount is added to all entries off the diagonal .., the returned order is the same and its total grows by n−1 times the amount'
  pub plan-slower : (a : ℕ) → Slower k a (entry (2 ^ k) table) (entry (2 ^ k) table₂) → Grows k o o₂ c c₂ (order_moves k * a)
  plan-slower a slow =
      let s = open-slower a (entry (2 ^ k) table) (entry (2 ^ k) table₂) k slow in
      record { same = plan-order q ∙ s.0 ∙ sym (plan-order p); more = omega (arith, plan-total q, s.1, plan-total p) }

  -- 'raising any entries never makes the least total smaller'
  pub plan-raised : Raised k (entry (2 ^ k) table) (entry (2 ^ k) table₂) → c ≤ c₂
  plan-raised more = omega (arith, open-raised (entry (2 ^ k) table) (entry (2 ^ k) table₂) k more, plan-total p, plan-total q)

-- ---- tours

module _ {k : ℕ} {table o : List ℕ} {c : ℕ} (p : Toured k table o c) where
  -- what an accepted call left and answered
  tour-left : take (2 ^ k) o ≡ any.wanted k (closed_total (entry (2 ^ k) table)) every
  tour-left = let l = p.lent in tour-order k table l.order l.totals l.pivots o l.totals' l.pivots' c p.promise

  tour-sum : c ≡ closed_total (entry (2 ^ k) table) (any.wanted k (closed_total (entry (2 ^ k) table)) every)
  tour-sum = let l = p.lent in tour-total k table l.order l.totals l.pivots o l.totals' l.pivots' c p.promise

-- the wanted tour by a slower table, of one stop and of more
wanted-tour-slower : (k a : ℕ) (t u : ℕ → ℕ → ℕ) → Slower k a t u
    → (any.wanted k (closed_total u) every ≡ any.wanted k (closed_total t) every)
    × (closed_total u (any.wanted k (closed_total u) every) ≡ closed_total t (any.wanted k (closed_total t) every) + tour_moves k * a)
wanted-tour-slower zero a t u slow = let s = tour-slower-one t u in (s.0, omega (arith, s.1))
wanted-tour-slower (suc k) a t u slow = let s = tour-slower a t u k slow in (s.0, omega (arith, s.1))

module _ (k : ℕ) (table table₂ o o₂ : List ℕ) (c c₂ : ℕ) (p : Toured k table o c) (q : Toured k table₂ o₂ c₂) where
  -- 'Both must also be shown for tours, where the first growth is n times the amount for n at least 2 and zero for n = 1'
  pub tour-slower-call : (a : ℕ) → Slower k a (entry (2 ^ k) table) (entry (2 ^ k) table₂) → Grows k o o₂ c c₂ (tour_moves k * a)
  tour-slower-call a slow =
      let s = wanted-tour-slower k a (entry (2 ^ k) table) (entry (2 ^ k) table₂) slow in
      record { same = tour-left q ∙ s.0 ∙ sym (tour-left p); more = omega (arith, tour-sum q, s.1, tour-sum p) }

  -- 'raising any entries never makes the least total smaller', of tours
  pub tour-raised-call : Raised k (entry (2 ^ k) table) (entry (2 ^ k) table₂) → c ≤ c₂
  tour-raised-call more = omega (arith, tour-raised (entry (2 ^ k) table) (entry (2 ^ k) table₂) k more, tour-sum p, tour-sum q)

-- ---- places that cost extra

module _ {k : ℕ} {table places o : List ℕ} {c : ℕ} (p : Placed k table places o c) where
  -- what an accepted call left and answered
  placed-left : take (2 ^ k) o ≡ any.wanted k (placed_total (entry (2 ^ k) table) (entry (2 ^ k) places)) every
  placed-left = let l = p.lent in places-order k table places l.order l.totals l.pivots o l.totals' l.pivots' c p.promise

  placed-sum : c ≡ placed_total (entry (2 ^ k) table) (entry (2 ^ k) places) (any.wanted k (placed_total (entry (2 ^ k) table) (entry (2 ^ k) places)) every)
  placed-sum = let l = p.lent in places-total k table places l.order l.totals l.pivots o l.totals' l.pivots' c p.promise

module _ (k : ℕ) (table table₂ places places₂ o o₂ : List ℕ) (c c₂ : ℕ) (p : Placed k table places o c) (q : Placed k table₂ places₂ o₂ c₂) where
  -- the same amount added to the first table off its diagonal, and another to every entry of the second: the same order; each move takes the one more
  -- and each of the n places the other
  pub places-slower : (a d : ℕ) → Slower k a (entry (2 ^ k) table) (entry (2 ^ k) table₂)
      → ((i j : ℕ) → i < 2 ^ k → j < 2 ^ k → entry (2 ^ k) places₂ i j ≡ entry (2 ^ k) places i j + d)
      → Grows k o o₂ c c₂ (order_moves k * a + 2 ^ k * d)
  places-slower a d slow more =
      let t : ℕ → ℕ → ℕ = entry (2 ^ k) table in
      let u : ℕ → ℕ → ℕ = entry (2 ^ k) table₂ in
      let x : ℕ → ℕ → ℕ = entry (2 ^ k) places in
      let y : ℕ → ℕ → ℕ = entry (2 ^ k) places₂ in
      let s = placed-slower a t u k slow x in
      let r = placed-more k u d x y more in
      record { same = placed-left q ∙ r.0 ∙ s.0 ∙ sym (placed-left p); more = omega (arith, placed-sum q, r.1, s.1, placed-sum p) }

  -- raising any entries of either table never makes the least total smaller
  pub places-raised : Raised k (entry (2 ^ k) table) (entry (2 ^ k) table₂)
      → ((i j : ℕ) → i < 2 ^ k → j < 2 ^ k → entry (2 ^ k) places i j ≤ entry (2 ^ k) places₂ i j) → c ≤ c₂
  places-raised more raised =
      omega (arith, placed-raised (entry (2 ^ k) table) (entry (2 ^ k) table₂) k more (entry (2 ^ k) places) (entry (2 ^ k) places₂) raised, placed-sum p, placed-sum q)
