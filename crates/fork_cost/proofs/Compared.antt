-- What is told of two orders, and where they part.
use mathlib.Core.Path.{refl, ◌≡◌, ap, ap₂, ◌∙◌}
use mathlib.Core.Bool.{Bool, true, false, cond}
use mathlib.Core.List.{List, ◌++◌}
use Prim.Native.Nat.{ℕ, zero, suc, ◌+◌, ◌-◌, ◌/◌, ◌%◌, ◌^◌, ◌≤◌, ◌<◌}
use native.Mathlib.Omega.{arith}
use lib.Dec.{eqb}
use lib.ListN.{length, drop, get_or, replicate, get_or-append, length-append}
use borrow.Author.Tests.{eq-eqb, ne_eqb}
use Rattle.base.specs.Outcome.{over}
use Rattle.records.proofs.FieldLaws.{length-bytes_of}
use Rattle.orders.specs.Bits.{byte_count, bit_string}
use Rattle.orders.proofs.Bits.{bit-string}
use Rattle.tree.specs.Fork.{bit}
use Rattle.tree.specs.Neighbour.{in_place}
use Rattle.fork_cost.specs.declared.ForkCost.{ForkCost}
use Rattle.fork_cost.specs.declared.plans.Both.{Both}
use Rattle.fork_cost.specs.Cost.{Cost, dearer, tie, returned, opposite, last_apart, compared, cost_of, told}
use Rattle.planner.specs.HeldFork.{state_of}
use Rattle.fork_cost.specs.Local.{BothLeft, CostLeft, cost_from}
use Rattle.fork_cost.proofs.Both.{both_long}

-- the place is below p, or 0
pub apart_below : (o u : List ℕ) (p : ℕ) → last_apart o u p ≤ p
apart_below o u zero = omega arith
apart_below o u (suc p) = go (eqb (in_place o p) (in_place u p)) (apart_below o u p)
  where
    go : (b : Bool) → last_apart o u p ≤ p → cond b (last_apart o u p) p ≤ suc p
    go true h = omega arith
    go false h = omega arith

-- it is the last place where they part there, and one before it else
pub apart-here : (o u : List ℕ) (p : ℕ) → 0 < p → (in_place o (p - 1) ≡ in_place u (p - 1) → ⊥) → p - 1 ≡ last_apart o u p
apart-here o u zero h f = absurd (omega arith)
apart-here o u (suc p) h f =
    let e : suc p - 1 ≡ p = omega arith in
    let g : in_place o p ≡ in_place u p → ⊥ = rw e at f in
    rw (e, ne_eqb (in_place o p) (in_place u p) g)

pub apart-before : (o u : List ℕ) (p : ℕ) → 0 < p → in_place o (p - 1) ≡ in_place u (p - 1) → last_apart o u p ≡ last_apart o u (p - 1)
apart-before o u zero h f = absurd (omega arith)
apart-before o u (suc p) h f =
    let e : suc p - 1 ≡ p = omega arith in
    let g : in_place o p ≡ in_place u p = rw e at f in
    rw (e, eq-eqb (in_place o p) (in_place u p) g)

-- what is told is the cost of the fork
pub cost-of-both : {k : ℕ} {t : ℕ → ℕ → ℕ} {fork place : ℕ} {both : Both} {order other totals pivots totals' pivots' : List ℕ} → BothLeft k t fork order other totals pivots totals' pivots' both
    → place ≡ last_apart (returned k t) (opposite k t fork) (2 ^ k) → cost_from both place ≡ cost_of k t fork
unfolding cost_of compared
cost-of-both {both = both} l e = rw (l.state, l.sum, l.other_sum, e)

-- a tie, and a dearer one
pub from-tie : (both : Both) (place : ℕ) → both.other ≡ both.total → ◌≡◌ {A = Cost} (record { state = state_of both.exchanged; total = both.other; more = 0; reason = tie place }) (cost_from both place)
from-tie both place e = let none : both.other - both.total ≡ 0 = omega (arith, e) in rw none

pub from-dearer : (both : Both) (place : ℕ) → both.total ≤ both.other → (both.other ≡ both.total → ⊥)
    → ◌≡◌ {A = Cost} (record { state = state_of both.exchanged; total = both.other; more = both.other - both.total; reason = dearer }) (cost_from both place)
from-dearer both place h f = let some : both.other - both.total ≡ 0 → ⊥ = λ z. f (omega (arith, z)) in rw (ne_eqb _ _ some)

-- bit v of a string that was written over others
pub front-bit : (k F : ℕ) (s before : List ℕ) (v : ℕ) → F < 2 ^ 2 ^ k → v < 2 ^ k → s ≡ over (bit_string k F) before → bit (get_or s (v / 8) 0) (v % 8) ≡ bit F v
front-bit k F s before v h b e =
    let inside : v / 8 < length (bit_string k F) = rw (length-bytes_of (byte_count (2 ^ k)) F) (omega arith) in
    ap (λ x. bit x (v % 8)) (ap (λ l. get_or l (v / 8) 0) e ∙ get_or-append (bit_string k F) (drop (length (bit_string k F)) before) 0 (v / 8) inside) ∙ bit-string k F h v

-- a bit as whether it is set
pub bit-set : (x : ℕ) → x < 2 → state_of (eqb x 1) ≡ x
bit-set zero b = refl
bit-set (suc zero) b = refl
bit-set (suc (suc x)) b = absurd (omega arith)

-- THE COST IS TOLD of the two orders that were planned, and the places of both are 0
pub cost-left : {k : ℕ} {t : ℕ → ℕ → ℕ} {fork place : ℕ} {both : Both} {order other orders' totals pivots totals' pivots' : List ℕ} {r : ForkCost} → BothLeft k t fork order other totals pivots totals' pivots' both
    → 0 < fork → fork < 2 ^ k → place ≡ last_apart order other (length order) → orders' ≡ replicate (length (order ++ other)) 0 → told r ≡ cost_from both place
    → CostLeft k t fork orders' totals pivots totals' pivots' r
cost-left {k} {order = order} {other = other} l h b p o s = record {
  given = s ∙ (cost-of-both l (p ∙ ap₂ (λ x y. last_apart x y (length order)) l.wrote l.other ∙ ap (last_apart _ _) long.0));
  orders = o ∙ ap (λ m. replicate m 0) (length-append order other ∙ ap₂ ◌+◌ long.0 long.1);
  space = l.space;
}
  where
    long : (length order ≡ 2 ^ k) × (length other ≡ 2 ^ k)
    long = both_long l h b

-- what code goes by for the place where two orders part, and for what is told
pub ruleset costs = (apart_below, apart-here, apart-before, from-tie, from-dearer)
