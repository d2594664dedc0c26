-- The two plans of a fork's cost: what each writes, and that they are the returned order and the opposite one.
use mathlib.Core.Path.{◌≡◌, refl, sym, ap, ◌∙◌}
use mathlib.Core.Bool.{Bool, true, false, not}
use mathlib.Core.List.{List, ◌++◌}
use Prim.Native.Nat.{ℕ, zero, suc, ◌-◌, ◌^◌, ◌≤◌, ◌<◌}
use native.Mathlib.Omega.{arith}
use lib.ListN.{length, drop}
use lib.Seq.{take_all, drop-append_seam}
use lib.Pow.{pow_pos}
use borrow.Author.Rules.{rules}
use Rattle.std.specs.Prelude.{Result, Ok, Err, IsOk}
use Rattle.base.specs.declared.Refusal.{Refusal}
use Rattle.path.specs.declared.PathBytes.{PathBytes}
use Rattle.base.specs.Outcome.{Outcome, gives, said, over}
use Rattle.base.proofs.Outcome.{over-whole}
use Rattle.tree.specs.Total.{total}
use Rattle.tree.specs.Wanted.{wanted}
use Rattle.tree.proofs.Open.{wanted-allowed, length-wanted}
use Rattle.costs.specs.Costs.{held}
use Rattle.costs.proofs.Other.{held-dearer}
use Rattle.orders.specs.Allowed.{is_allowed}
use Rattle.orders.specs.Lent.{order_in}
use Rattle.orders.proofs.Allowed.{is_allowed-iff}
use Rattle.planner.specs.Plan.{Plan, cleared}
use Rattle.planner.specs.Places.{OrderIsWritten}
use Rattle.planner.specs.HeldFork.{holding, state_of, plan_held}
use Rattle.planner.proofs.HeldForks.{holding-long, state-small}
use Rattle.planner.proofs.HeldJudged.{held-fit, held_gives}
use Rattle.fork_cost.specs.declared.plans.Both.{Both}
use Rattle.fork_cost.specs.Cost.{returned, state_in, opposite}
use Rattle.fork_cost.specs.Local.{Judged, times_of, plan_of, plan_by, Cleared, OrderLeft, BothLeft}

-- ---- one plan

module _ {path : PathBytes} {totals pivots : ℕ} (j : Judged path totals pivots) where
  -- a plan of judged bytes is accepted
  pub plan-given : (fork : ℕ) (exchanged : Bool) (order : ℕ) → fork < 2 ^ path.k → 2 ^ path.k ≤ order
      → plan_held path.bytes.now path.version path.k fork (state_of exchanged) order totals pivots ≡ gives (plan_by path fork exchanged)
  plan-given fork exchanged order b l =
      held_gives path.bytes.now path.version path.k fork order totals pivots (held-fit path.bytes.now path.version path.k fork order totals pivots j.small j.body b l j.rows j.marks) (state_of exchanged)

-- its order is as long as the places
pub plan-long : (bytes : List ℕ) (version k fork : ℕ) (exchanged : Bool) → fork < 2 ^ k → length (plan_of bytes version k fork exchanged).order ≡ 2 ^ k
plan-long bytes version k fork exchanged b = holding-long k (total (times_of bytes version k)) fork (state_of exchanged) b (state-small exchanged refl)

-- what says a total is `Ok`
pub total-ok : (r : Result ℕ Refusal) {n : ℕ} → said r ≡ gives n → r ≡ Ok n
total-ok (Ok m) {n} e = let same : m ≡ n = cc in ap Ok same
total-ok (Err x) {n} e = absurd (let z : ◌≡◌ {A = ℕ} 0 1 = cc in omega arith)

-- a plan that is accepted is `Ok`
pub plan-ok : {k : ℕ} {o : Outcome Plan} {p : Plan} {order totals pivots order' totals' pivots' : List ℕ} {r : Result ℕ Refusal} → OrderIsWritten k o order totals pivots order' totals' pivots' r → o ≡ gives p → IsOk r
plan-ok {r = r} w g = rw (total-ok r (rw g at w.said)) (search rules)

-- and the order is written, with that total
pub plan-left : {k : ℕ} {o : Outcome Plan} {p : Plan} {order totals pivots order' totals' pivots' : List ℕ} {r : Result ℕ Refusal} {sum : ℕ} → OrderIsWritten k o order totals pivots order' totals' pivots' r
    → o ≡ gives p → length order ≡ 2 ^ k → length p.order ≡ 2 ^ k → r ≡ Ok sum → OrderLeft k p.order p.total order' totals pivots totals' pivots' sum
plan-left {k} {o} {p} {order} {r = r} {sum = sum} w g long same e =
    let is : ◌≡◌ {A = Result ℕ Refusal} (Ok sum) (Ok p.total) = sym e ∙ total-ok r (rw g at w.said) in
    record {
      wrote = (rw g at w.wrote) ∙ over-whole p.order order (same ∙ sym long);
      summed = cc;
      space = record { rows = rw g at w.cleared_totals; marks = rw g at w.cleared_pivots };
    }

-- ---- the two orders

module _ (k : ℕ) (t : ℕ → ℕ → ℕ) where
  -- with no fork held it is the returned order
  pub first-returned : (state : ℕ) → wanted k (total t) (holding 0 state) ≡ returned k t
  unfolding holding
  first-returned state = refl

  -- which is allowed
  pub returned-allowed : is_allowed k (returned k t) ≡ true
  returned-allowed = (is_allowed-iff k (returned k t)).1 (wanted-allowed k t)

  -- with the fork held in the state that it has not, the opposite one
  pub second-opposite : (fork : ℕ) (exchanged : Bool) → 0 < fork → state_of exchanged ≡ state_in k (returned k t) fork → wanted k (total t) (holding fork (state_of (not exchanged))) ≡ opposite k t fork
  unfolding holding
  second-opposite zero exchanged h e = absurd (omega arith)
  second-opposite (suc v) exchanged h e = ap (λ s. wanted k (total t) (held (suc v) s)) (inverted exchanged ∙ ap (λ x. 1 - x) e)
    where
      inverted : (b : Bool) → state_of (not b) ≡ 1 - state_of b
      inverted true = refl
      inverted false = refl

  -- no less than the returned one
  pub opposite-dearer : (fork : ℕ) → 0 < fork → fork < 2 ^ k → total t (returned k t) ≤ total t (opposite k t fork)
  opposite-dearer fork h b = held-dearer k fork h b (total t) (1 - state_in k (returned k t) fork) (omega arith)

  -- as long as the places, both
  pub returned-long : length (returned k t) ≡ 2 ^ k
  returned-long = length-wanted k t

  pub opposite-long : (fork : ℕ) → 0 < fork → fork < 2 ^ k → length (opposite k t fork) ≡ 2 ^ k
  unfolding holding
  opposite-long zero h b = absurd (omega arith)
  opposite-long (suc v) h b = length-of v b
    where
      length-of : (v : ℕ) → suc v < 2 ^ k → length (wanted k (total t) (held (suc v) (1 - state_in k (returned k t) (suc v)))) ≡ 2 ^ k
      length-of v b = holding-long k (total t) (suc v) (1 - state_in k (returned k t) (suc v)) b (omega arith)

-- ---- work space that is cleared twice

pub cleared-again : {k : ℕ} {totals pivots totals₁ pivots₁ totals₂ pivots₂ : List ℕ} → Cleared k totals pivots totals₁ pivots₁ → Cleared k totals₁ pivots₁ totals₂ pivots₂ → Cleared k totals pivots totals₂ pivots₂
cleared-again {k} {totals} {pivots} a b = record { rows = b.rows ∙ ap (over (cleared k)) a.rows ∙ over-again (cleared k) totals; marks = b.marks ∙ ap (over (cleared k)) a.marks ∙ over-again (cleared k) pivots }
  where
    over-again : (l before : List ℕ) → over l (over l before) ≡ over l before
    over-again l before = ap (λ x. l ++ x) (drop-append_seam l (drop (length l) before))

-- ---- one after the other

module _ (bytes : List ℕ) (version k : ℕ) where
  -- what the first plan leaves: the returned order
  pub front-order : {order₁ : List ℕ} → order₁ ≡ (plan_of bytes version k 0 false).order → order_in k order₁ ≡ returned k (times_of bytes version k)
  front-order e =
      let t = times_of bytes version k in
      ap (order_in k) e
      ∙ take_all (2 ^ k) (plan_of bytes version k 0 false).order (omega (arith, plan-long bytes version k 0 false (pow_pos k))) ∙ first-returned k t 0

  -- which is allowed
  pub front-allowed : {order₁ : List ℕ} → order₁ ≡ (plan_of bytes version k 0 false).order → is_allowed k (order_in k order₁) ≡ true
  front-allowed e = ap (is_allowed k) (front-order e) ∙ returned-allowed k (times_of bytes version k)

  -- BOTH PLANS leave both orders
  pub both_left : {fork sum other : ℕ} {exchanged : Bool} {order₁ order₂ totals pivots totals₁ pivots₁ totals₂ pivots₂ : List ℕ} → 0 < fork → fork < 2 ^ k
      → OrderLeft k (plan_of bytes version k 0 false).order (plan_of bytes version k 0 false).total order₁ totals pivots totals₁ pivots₁ sum
      → state_of exchanged ≡ state_in k (order_in k order₁) fork
      → OrderLeft k (plan_of bytes version k fork (not exchanged)).order (plan_of bytes version k fork (not exchanged)).total order₂ totals₁ pivots₁ totals₂ pivots₂ other
      → BothLeft k (times_of bytes version k) fork order₁ order₂ totals pivots totals₂ pivots₂ (record { exchanged = exchanged; total = sum; other = other })
  both_left {fork} {exchanged = exchanged} pos b first e second =
      let t = times_of bytes version k in
      let front : (plan_of bytes version k 0 false).order ≡ returned k t = first-returned k t 0 in
      let is : state_of exchanged ≡ state_in k (returned k t) fork = e ∙ ap (λ o. state_in k o fork) (front-order first.wrote) in
      let behind : (plan_of bytes version k fork (not exchanged)).order ≡ opposite k t fork = second-opposite k t fork exchanged pos is in
      record {
        wrote = first.wrote ∙ front;
        other = second.wrote ∙ behind;
        state = is;
        sum = first.summed ∙ ap (total t) front;
        other_sum = second.summed ∙ ap (total t) behind;
        space = cleared-again first.space second.space;
      }

-- they are as long as the places
pub both_long : {k : ℕ} {t : ℕ → ℕ → ℕ} {fork : ℕ} {order other totals pivots totals' pivots' : List ℕ} {both : Both} → BothLeft k t fork order other totals pivots totals' pivots' both → 0 < fork → fork < 2 ^ k
    → (length order ≡ 2 ^ k) × (length other ≡ 2 ^ k)
both_long {k} {t} {fork} l h b = (ap length l.wrote ∙ returned-long k t, ap length l.other ∙ opposite-long k t fork h b)
