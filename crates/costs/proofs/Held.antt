-- M-101: ONE FORK HELD IN A STATE. The idea: bit k - 1 - h of a stop's place is that bit of the stop, inverted if its fork at depth h is
-- exchanged. So the state of fork v is read off any stop below it, and a set holds v in state s exactly if every stop below v stands in
-- a place with that bit right. A move may then be tested by its place alone, and the graph needs no memory of the fork.
use mathlib.Core.Path.{◌≡◌, refl, sym, ap, ◌∙◌}
use mathlib.Core.Bool.{Bool, true, false, cond}
use mathlib.Core.List.{List}
use mathlib.Core.Logic.{◌↔◌}
use Prim.Native.Nat.{ℕ, zero, suc, ◌+◌, ◌*◌, ◌-◌, ◌%◌, ◌^◌, ◌≤◌, ◌<◌}
use native.Mathlib.Nat.{pow-succ'}
use native.Mathlib.Decide.{dec_lt}
use native.Mathlib.Omega.{arith}
use lib.Dec.{eqb}
use lib.Pow.{pow_pos, pow_mono, shl_lt, shl-shr}
use borrow.Author.Tests.{eqb-true, eq-eqb}
use Rattle.walks.specs.Best.{at, plan}
use Rattle.walks.specs.Halves.{segment}
use Rattle.tree.specs.Fork.{bit, fork_above}
use Rattle.tree.specs.Neighbour.{in_place}
use Rattle.tree.specs.Order.{place_of, order_of, Allowed}
use Rattle.tree.specs.Total.{total}
use Rattle.tree.specs.Wanted.{backward}
use Rattle.tree.proofs.Link.{place_of-bit}
use Rattle.tree.proofs.Sides.{stop-once, stop-only}
use Rattle.tree.proofs.Theorem7.{place_of-lt, decides}
use Rattle.tree.specs.Wanted.{wanted, Settled}
use Rattle.tree.specs.Draws.{Draws}
use Rattle.costs.specs.Costs.{held}
use Rattle.tree.specs.Layers.{layers}
use Rattle.costs.specs.Graphs.{AtDepth, admissible, held_graph}
use Rattle.tree.proofs.Layers.{Fit, cost_to-moves, layers-draw}
use Rattle.tree.proofs.Draws.{plans-wanted, plans-one}
use Rattle.tree.proofs.Open.{moves-total}

-- every fork of the tree is at some depth
pub depth-of : (k v : ℕ) → 1 ≤ v → v < 2 ^ k → (h : ℕ) × (h < k) × AtDepth v h
depth-of zero v a b = absurd (omega arith)
depth-of (suc k) v a b = go (dec_lt v (2 ^ k)) (depth-of k v a)
  where
    go : Dec (v < 2 ^ k) → (v < 2 ^ k → (h : ℕ) × (h < k) × AtDepth v h) → (h : ℕ) × (h < suc k) × AtDepth v h
    go (yes c) ih = let r = ih c in (r.0, omega (arith, r.1), r.2)
    go (no c) ih = (k, omega arith, (omega arith, b))

-- some set holds fork v in state s
pub held-some : (v s : ℕ) → s < 2 → held v s (s * 2 ^ v) ≡ true
held-some v s b = eq-eqb (bit (s * 2 ^ v) v) s (omega (arith, shl-shr s v))

-- whether a set holds a fork is settled by its order
pub held-settled : (k v s : ℕ) → 1 ≤ v → v < 2 ^ k → Settled k (held v s)
held-settled k v s a b F G e = ap (λ x. eqb x s) (decides k F G e v a b)

module _ (k v h s : ℕ) (deep : h < k) (depth : AtDepth v h) (state : s < 2) where
  -- the first stop below v
  below : ℕ
  below = (v - 2 ^ h) * 2 ^ (k - h)

  -- it is a stop
  below-lt : below < 2 ^ k
  unfolding below
  below-lt =
      let e : h + (k - h) ≡ k = omega arith in
      let b : v - 2 ^ h < 2 ^ h = omega (arith, depth.0, depth.1, pow-succ' 2 h) in
      rw e at (shl_lt h (k - h) b)

  -- and v is its fork at depth h
  below-fork : fork_above k below h ≡ v
  unfolding below
  below-fork = omega (arith, shl-shr (v - 2 ^ h) (k - h), depth.0)

  -- the bit of the place of a stop below v tells the state of v
  bit_below : (F i p : ℕ) → p < 2 ^ k → in_place (order_of k F) p ≡ i → fork_above k i h ≡ v → bit p (k - 1 - h) ≡ (bit i (k - 1 - h) + bit F v) % 2
  bit_below F i p b e f = rw (stop-only k F i p b e) (place_of-bit k F i h deep ∙ ap (λ x. (bit i (k - 1 - h) + bit F x) % 2) f)

  -- under a set that holds v in state s every stop is in an admissible place
  pub held-fit : (F : ℕ) → held v s F ≡ true → Fit k (admissible k v h s) (order_of k F)
  unfolding admissible
  held-fit F t p b = go (eqb (fork_above k i h) v) refl
    where
      i : ℕ
      i = in_place (order_of k F) p

      go : (c : Bool) → eqb (fork_above k i h) v ≡ c → cond c (eqb (bit p (k - 1 - h)) ((bit i (k - 1 - h) + s) % 2)) true ≡ true
      go true e = eq-eqb _ _ (bit_below F i p b refl (eqb-true _ _ e) ∙ ap (λ x. (bit i (k - 1 - h) + x) % 2) (eqb-true _ _ t))
      go false e = refl

  -- and back: the first stop below v tells
  pub fit-held : (F : ℕ) → Fit k (admissible k v h s) (order_of k F) → held v s F ≡ true
  unfolding admissible
  fit-held F f =
      let p : ℕ = place_of k F below in
      let i-is : in_place (order_of k F) p ≡ below = stop-once k F below below-lt in
      let d : ℕ = k - 1 - h in
      let y : cond (eqb (fork_above k below h) v) (eqb (bit p d) ((bit below d + s) % 2)) true ≡ true = rw i-is at (f p (place_of-lt k F below)) in
      let z : eqb (bit p d) ((bit below d + s) % 2) ≡ true = rw (eq-eqb _ _ below-fork) at y in
      let x : bit p d ≡ (bit below d + bit F v) % 2 = bit_below F below p (place_of-lt k F below) i-is below-fork in
      eq-eqb (bit F v) s (omega (arith, eqb-true (bit p d) ((bit below d + s) % 2) z))

  -- THE ORDERS OF THE SETS THAT HOLD v IN STATE s ARE THE ALLOWED ORDERS ALL OF WHOSE PAIRS ARE ADMISSIBLE
  pub held-iff : (o : List ℕ) → ((F : ℕ) × (held v s F ≡ true) × (order_of k F ≡ o)) ↔ (Allowed k o × Fit k (admissible k v h s) o)
  held-iff o = (there, back)
    where
      there : (F : ℕ) × (held v s F ≡ true) × (order_of k F ≡ o) → Allowed k o × Fit k (admissible k v h s) o
      there a = ((a.0, a.2), rw (← a.2) (held-fit a.0 a.1))

      back : Allowed k o × Fit k (admissible k v h s) o → (F : ℕ) × (held v s F ≡ true) × (order_of k F ≡ o)
      back a = (a.0.0, fit-held a.0.0 (rw a.0.1 a.1), a.0.1)

  module _ (t : ℕ → ℕ → ℕ) where
    -- the graph draws the open total of the sets that hold v in state s
    pub held-draws : Draws k (total t) (held v s) (λ e. held_graph k t v h s)
    held-draws = layers-draw k (total t) (held v s) (admissible k v h s) (λ e i. 0) (λ p. t) held-fit fit-held
        (λ F. omega (arith, cost_to-moves k (admissible k v h s) (λ i. 0) t (order_of k F) (2 ^ k - 1), moves-total k t F))

    -- ITS BEST WALK IS THE WANTED ORDER AMONG THOSE OF THESE SETS
    pub held-plan : plan (held_graph k t v h s) (2 ^ k - 1) ≡ at (total t (wanted k (total t) (held v s))) (backward (wanted k (total t) (held v s)))
    unfolding layers segment
    held-plan = sym (plans-one (held_graph k t v h s) (2 ^ k - 1))
        ∙ plans-wanted k (total t) (held v s) (λ e. held_graph k t v h s) held-draws
        (held-settled k v s (omega (arith, depth.0, pow_pos h)) (omega (arith, depth.1, pow_mono {i = suc h} {j = k} deep))) (s * 2 ^ v) (held-some v s state)
