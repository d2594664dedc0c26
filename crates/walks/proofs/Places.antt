-- An order is allowed exactly if its stops, the last first, are a walk, and the tie rule in words is the preference of those lists.
use mathlib.Core.Path.{◌≡◌, refl, sym, ap, ap₂, subst, ◌∙◌}
use mathlib.Core.Bool.{true}
use mathlib.Core.List.{List, ◌∷◌, ◌++◌}
use mathlib.Core.Logic.{◌⊎◌, inl, inr}
use Prim.Native.Nat.{ℕ, ◌+◌, ◌≤◌, ◌<◌, zero, suc}
use lib.ListN.{length}
use native.Mathlib.Omega.{arith}
use Rattle.walks.proofs.Best.{plan-least, least-has, least-at_most, least-some}
use Rattle.walks.proofs.Prefer.{Trich, below, equal, above, trich}
use Rattle.walks.specs.Best.{at, Whole, whole, plan}
use Rattle.walks.specs.Halves.{past}
use Rattle.walks.specs.Places.{stops_to, cost_to, Admits, Earlier, Preferred, by-cost, by-stops, alike}
use Rattle.walks.specs.Prefer.{Lex, here, there, cheaper, smaller, AtMost, less, same}
use Rattle.walks.specs.Walk.{Graph, Walk, begin, move}

-- an allowed order is a walk
pub order-walk : (G : Graph) (n : ℕ) (o : ℕ → ℕ) → Admits G n o → Walk G n (o n) (cost_to G o n) (stops_to o n)
unfolding stops_to cost_to
order-walk G zero o h = begin h.begins
order-walk G (suc n) o h = move (order-walk G n o shorter) (h.stops n (omega arith)) (h.moves n (omega arith))
  where
    shorter : Admits G n o
    shorter = record { begins = h.begins; stops = λ p b. h.stops p (omega arith); moves = λ p b. h.moves p (omega arith) }

-- the same with its last stop
pub order-whole : (G : Graph) (n : ℕ) (o : ℕ → ℕ) → Admits G n o → Whole G n (cost_to G o n) (stops_to o (suc n))
unfolding stops_to
order-whole G n o h = whole (h.stops n (omega arith)) (order-walk G n o h)

-- a walk is an allowed order, and costs what the order costs
pub walk-order : {G : Graph} {n i c : ℕ} {l : List ℕ} (o : ℕ → ℕ) → Walk G n i c l → o n ≡ i → stops_to o n ≡ l → i < G.bound
    → Admits G n o × (cost_to G o n ≡ c)
unfolding stops_to cost_to
walk-order {G} o (begin {i = i} h) e f b =
    (record { begins = rw e h; stops = λ p k. let z : p ≡ 0 = omega arith in rw (z, e) b; moves = λ p k. absurd (omega arith) }, ap G.start e)
walk-order {G} o (move {n = n} {j = j} {c = c} {i = i} {l = l} v k a) e f b =
    let e' : o n ≡ j = cc in
    let f' : stops_to o n ≡ l = cc in
    let r = walk-order o v e' f' k in (
      record {
        begins = r.0.begins;
        stops = λ p x. stop p x r.0 (trich p (suc n));
        moves = λ p x. go p x r.0 (trich p n) e';
      },
      ap₂ ◌+◌ r.1 (ap₂ (G.weight n) e' e),
    )
  where
    stop : (p : ℕ) → p ≤ suc n → Admits G n o → Trich p (suc n) → o p < G.bound
    stop p x r (below h) = r.stops p (omega arith)
    stop p x r (equal h) = rw (h, e) b
    stop p x r (above h) = absurd (omega arith)

    go : (p : ℕ) → p < suc n → Admits G n o → Trich p n → o n ≡ j → G.ok p (o p) (o (suc p)) ≡ true
    go p x r (below h) y = r.moves p h
    go p x r (equal h) y = rw (h, y, e) a
    go p x r (above h) y = absurd (omega arith)

-- the same with the last stop: an order is allowed exactly if its stops are a walk
pub whole-order : (G : Graph) (n : ℕ) (o : ℕ → ℕ) {c : ℕ} → Whole G n c (stops_to o (suc n)) → Admits G n o × (cost_to G o n ≡ c)
unfolding stops_to
whole-order G n o h = go h refl
  where
    go : {c : ℕ} {l : List ℕ} → Whole G n c l → l ≡ stops_to o (suc n) → Admits G n o × (cost_to G o n ≡ c)
    go (whole {i = i} {l = m} b v) e =
        let e' : o n ≡ i = cc in
        let f' : stops_to o n ≡ m = cc in
        walk-order o v e' f' b

-- orders that agree below n have the same stops there
pub stops_same : (o u : ℕ → ℕ) (n : ℕ) → ((p : ℕ) → p < n → o p ≡ u p) → stops_to o n ≡ stops_to u n
unfolding stops_to
stops_same o u zero h = refl
stops_same o u (suc n) h = ap₂ ◌∷◌ (h n (omega arith)) (stops_same o u n (λ p b. h p (omega arith)))

-- the stops of n + 1 places more than m, taken apart at place m
pub stops_join : (o : ℕ → ℕ) (m n : ℕ) → stops_to o (suc (past n m)) ≡ stops_to (λ k. o (suc (past k m))) n ++ o m ∷ stops_to o m
unfolding stops_to
stops_join o m zero = refl
stops_join o m (suc n) = ap (◌∷◌ (o (suc (past n m)))) (stops_join o m n)

-- the rule in words is the order of the lists read back
pub earlier-lex : (n : ℕ) (o u : ℕ → ℕ) → Earlier n o u → Lex (stops_to o n) (stops_to u n)
unfolding stops_to
earlier-lex zero o u h = absurd (omega (arith, h.inside))
earlier-lex (suc n) o u h = go (trich h.place n) (λ k. earlier-lex n o u k)
  where
    go : Trich h.place n → (Earlier n o u → Lex (stops_to o n) (stops_to u n)) → Lex (o n ∷ stops_to o n) (u n ∷ stops_to u n)
    go (below b) ih = rw (h.alike-after n b (omega arith)) (there (ih (record
        { place = h.place; inside = b; smaller-there = h.smaller-there; alike-after = λ r x y. h.alike-after r x (omega arith) })))
    go (equal b) ih = here (subst (λ x. o x < u x) b h.smaller-there)
    go (above b) ih = absurd (omega (arith, h.inside))

-- how two lists can be in order
lex-cases : {a b : ℕ} {l m : List ℕ} → Lex (a ∷ l) (b ∷ m) → (a < b) ⊎ ((a ≡ b) × Lex l m)
lex-cases (here p) = inl p
lex-cases (there h) = inr (refl, h)

-- and back
pub lex-earlier : (n : ℕ) (o u : ℕ → ℕ) → Lex (stops_to o n) (stops_to u n) → Earlier n o u
unfolding stops_to
lex-earlier zero o u h = elim h [ ]
lex-earlier (suc n) o u h = go (lex-cases h) (λ k. lex-earlier n o u k)
  where
    go : (o n < u n) ⊎ ((o n ≡ u n) × Lex (stops_to o n) (stops_to u n)) → (Lex (stops_to o n) (stops_to u n) → Earlier n o u)
        → Earlier (suc n) o u
    go (inl p) ih = record { place = n; inside = omega arith; smaller-there = p; alike-after = λ r x y. absurd (omega arith) }
    go (inr p) ih = let k = ih p.1 in record {
      place = k.place;
      inside = omega (arith, k.inside);
      smaller-there = k.smaller-there;
      alike-after = λ r x y. after r k x y (trich r n);
    }
      where
        after : (r : ℕ) (k : Earlier n o u) → k.place < r → r < suc n → Trich r n → o r ≡ u r
        after r k x y (below b) = k.alike-after r x b
        after r k x y (equal b) = rw b p.0
        after r k x y (above b) = absurd (omega arith)

-- equal stops: equal orders
pub stops-alike : (o u : ℕ → ℕ) (n : ℕ) → stops_to o n ≡ stops_to u n → (p : ℕ) → p < n → o p ≡ u p
unfolding stops_to
stops-alike o u zero e p b = absurd (omega arith)
stops-alike o u (suc n) e p b =
    let e' : o n ≡ u n = cc in
    let f' : stops_to o n ≡ stops_to u n = cc in
    go e' (trich p n) (λ h. stops-alike o u n f' p h)
  where
    go : o n ≡ u n → Trich p n → (p < n → o p ≡ u p) → o p ≡ u p
    go e (below h) ih = ih h
    go e (equal h) ih = rw h e
    go e (above h) ih = absurd (omega arith)

-- an order whose stops are the plan's is allowed, and costs what the plan says
pub plan-order : (G : Graph) (n : ℕ) (o : ℕ → ℕ) {c : ℕ} {l : List ℕ} → plan G n ≡ at c l → stops_to o (suc n) ≡ l
    → Admits G n o × (cost_to G o n ≡ c)
plan-order G n o {c} e s = whole-order G n o (subst (Whole G n c) (sym s) (least-has (Whole G n) (plan G n) (plan-least G n) e))

-- and is wanted rather than every other allowed order
pub plan-wanted : (G : Graph) (n : ℕ) (o u : ℕ → ℕ) {c : ℕ} {l : List ℕ} → plan G n ≡ at c l → stops_to o (suc n) ≡ l
    → Admits G n u → Preferred G n o u
plan-wanted G n o u {c} {l} e s k = go (subst (λ x. AtMost c x (cost_to G u n) (stops_to u (suc n))) (sym s)
    (least-at_most (Whole G n) (plan G n) (plan-least G n) e (order-whole G n u k))) (plan-order G n o e s).1
  where
    go : AtMost c (stops_to o (suc n)) (cost_to G u n) (stops_to u (suc n)) → cost_to G o n ≡ c → Preferred G n o u
    go (less (cheaper x)) y = by-cost (rw y x)
    go (less (smaller x z)) y = by-stops (y ∙ x) (lex-earlier (suc n) o u z)
    go (same x z) y = alike (λ p b. stops-alike o u (suc n) z p (omega arith))

-- where there is an allowed order there is a plan
pub plan-found : (G : Graph) (n : ℕ) (u : ℕ → ℕ) → Admits G n u → (c : ℕ) × (l : List ℕ) × (plan G n ≡ at c l)
plan-found G n u k = least-some (Whole G n) (plan G n) (plan-least G n) (order-whole G n u k)

-- the stops in n places are n
pub stops-length : (o : ℕ → ℕ) (n : ℕ) → length (stops_to o n) ≡ n
unfolding stops_to
stops-length o zero = refl
stops-length o (suc n) = ap suc (stops-length o n)
