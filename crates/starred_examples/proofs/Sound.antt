-- What the test computes is what the example says.
use mathlib.Core.Path.{◌≡◌, sym}
use mathlib.Core.Bool.{true, not, ◌&&◌}
use mathlib.Core.List.{List, [], ◌∷◌}
use Prim.Native.Nat.{ℕ, zero, suc, ◌^◌, ◌<◌}
use native.Mathlib.Omega.{arith}
use lib.Dec.{eqb}
use lib.ListN.{length, get_or}
use borrow.Author.Tests.{eqb-true, eq-eqb, not-true}
use Rattle.stop.specs.declared.Stop.{Stop}
use Rattle.times.specs.Time.{distance, time}
use Rattle.times.specs.Table.{entry_of}
use Rattle.tree.specs.Order.{order_of}
use Rattle.tree.specs.Total.{entry, total}
use Rattle.tree.specs.Open.{wanted, Shortest}
use Rattle.tree.proofs.Open.{wanted-shortest, shortest-wanted}
use Rattle.orders.specs.Same.{alike}
use Rattle.orders.specs.Allowed.{is_allowed}
use Rattle.base.proofs.Bools.{both}
use Rattle.orders.proofs.Same.{alike_same, same_alike}
use Rattle.orders.proofs.Allowed.{is_allowed-iff}
use Rattle.starred_examples.specs.Example.{Example, planned, planned_for, barred, timed, fork_set, Says, is_wanted, holds, all_hold, Wrong, all_turned_down}

-- an order and a total that pass the test meet demand 3
pub wanted-passes : (k : ℕ) (t : ℕ → ℕ → ℕ) (order : List ℕ) (sum : ℕ) → is_wanted k t order sum ≡ true → Shortest k t order sum
unfolding is_wanted
wanted-passes k t order sum e =
    let b = both (alike (wanted k t) order) (eqb (total t (wanted k t)) sum) e in
    rw (← alike_same (wanted k t) order b.0, ← eqb-true (total t (wanted k t)) sum b.1) (wanted-shortest k t)

-- and what meets demand 3 passes it
pub passes-wanted : (k : ℕ) (t : ℕ → ℕ → ℕ) (order : List ℕ) (sum : ℕ) → Shortest k t order sum → is_wanted k t order sum ≡ true
unfolding is_wanted
passes-wanted k t order sum s =
    let w = shortest-wanted k t order sum s in
    rw (same_alike (wanted k t) order (sym w.0), eq-eqb (total t (wanted k t)) sum (sym w.1))

-- an example that passes its test is so
pub sound : (e : Example) → holds e ≡ true → Says e
unfolding holds
sound (planned k table order sum) h = wanted-passes k (entry (2 ^ k) table) order sum h
sound (planned_for k stops order sum unturned forks) h =
    let w = is_wanted k (entry_of stops) order sum in
    let u = eqb (total (entry_of stops) (order_of k 0)) unturned in
    let a = both (w && u) (alike (order_of k (fork_set forks)) order) h in
    let b = both w u a.0 in
    (wanted-passes k (entry_of stops) order sum b.0, eqb-true _ _ b.1, alike_same _ _ a.1)
sound (barred k order) h = λ x. let f = (is_allowed-iff k order).1 x in let n = not-true (is_allowed k order) h in let z : ◌≡◌ {A = ℕ} 0 1 = cc in omega arith
sound (timed from to d ms) h =
    let b = both (eqb (distance from to) d) (eqb (time from to) ms) h in
    (eqb-true _ _ b.0, eqb-true _ _ b.1)

-- so is each of a list that passes
pub all_sound : (es : List Example) (d : Example) → all_hold es ≡ true → (i : ℕ) → i < length es → Says (get_or es i d)
unfolding all_hold
all_sound [] d h i b = absurd (omega arith)
all_sound (e ∷ es) d h zero b = sound e (both (holds e) (all_hold es) h).0
all_sound (e ∷ es) d h (suc i) b = all_sound es d (both (holds e) (all_hold es) h).1 i (omega arith)

-- and each answer that is turned down does not meet demand 3
pub all-turned-down : (k : ℕ) (stops : List Stop) (ws : List Wrong) (d : Wrong) → all_turned_down k stops ws ≡ true → (i : ℕ) → i < length ws
    → Shortest k (entry_of stops) (get_or ws i d).order (get_or ws i d).sum → ⊥
unfolding all_turned_down
all-turned-down k stops [] d h i b s = omega arith
all-turned-down k stops (w ∷ ws) d h zero b s =
    let n = both (not (is_wanted k (entry_of stops) w.order w.sum)) (all_turned_down k stops ws) h in
    let x = not-true (is_wanted k (entry_of stops) w.order w.sum) n.0 in
    let y = passes-wanted k (entry_of stops) w.order w.sum s in
    let z : ◌≡◌ {A = ℕ} 0 1 = cc in
    omega arith
all-turned-down k stops (w ∷ ws) d h (suc i) b s =
    all-turned-down k stops ws d (both (not (is_wanted k (entry_of stops) w.order w.sum)) (all_turned_down k stops ws) h).1 i (omega arith) s
