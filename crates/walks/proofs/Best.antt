-- THE RECURRENCE: of all walks to a stop the best is the best walk of some allowed predecessor, least cost first and then the
-- smaller predecessor. The rule 'least cost, then smallest predecessor' at each place gives the whole rule for equals.
use mathlib.Core.Path.{◌≡◌, refl, sym, ap₂, subst, subst₂, ◌∙◌}
use mathlib.Core.Bool.{Bool, true, false, cond}
use mathlib.Core.List.{List, [], ◌∷◌}
use mathlib.Core.Logic.{◌⊎◌, inl, inr, ⊎_elim}
use Prim.Native.Nat.{ℕ, ◌+◌, ◌<◌, zero, suc}
use borrow.Author.Tests.{ltb-true, ltb-false}
use lib.Dec.{ltb}
use native.Mathlib.Nat.{add-zero}
use native.Mathlib.Omega.{arith}
use Rattle.walks.proofs.Prefer.{Trich, below, equal, above, trich, at_most-refl, at_most-trans, at_most-antisym, at_most-lex, at_most-step}
use Rattle.walks.specs.Best.{Found, none, at, keep, scan, first, step, best, Whole, whole, plan, Least}
use Rattle.walks.specs.Prefer.{Lex, here, cheaper, AtMost, less}
use Rattle.walks.specs.Walk.{Graph, Walk, begin, move}

-- least for P is least for what is the same as P
pub least_iff : {P Q : ℕ → List ℕ → Type 0} (x : Found (List ℕ)) → ((c : ℕ) (l : List ℕ) → P c l → Q c l) → ((c : ℕ) (l : List ℕ) → Q c l → P c l)
    → Least P x → Least Q x
least_iff none f g h = λ c l q. h c l (g c l q)
least_iff (at c l) f g h = (f c l h.0, λ d m q. h.1 d m (g d m q))

-- the better of two is least for either, if the lists of the first come before those of the second
pub keep-least : {P Q : ℕ → List ℕ → Type 0} (x y : Found (List ℕ)) → ((c d : ℕ) (l m : List ℕ) → P c l → Q d m → Lex l m)
    → Least P x → Least Q y → Least (λ c l. P c l ⊎ Q c l) (keep x y)
unfolding keep
keep-least none none o h k = λ c l. ⊎_elim (h c l) (k c l)
keep-least none (at d m) o h k = (inr k.0, λ e r. ⊎_elim (λ p. absurd (h e r p)) (k.1 e r))
keep-least (at c l) none o h k = (inl h.0, λ e r. ⊎_elim (h.1 e r) (λ q. absurd (k e r q)))
keep-least {P} {Q} (at c l) (at d m) o h k = go (ltb d c) refl
  where
    go : (b : Bool) → ltb d c ≡ b → Least (λ e r. P e r ⊎ Q e r) (cond b (at d m) (at c l))
    go true t = (inr k.0, λ e r. ⊎_elim (λ p. at_most-trans (less (cheaper (ltb-true d c t))) (h.1 e r p)) (k.1 e r))
    go false t = (
      inl h.0,
      λ e r. ⊎_elim (h.1 e r)
          (λ q. at_most-trans (at_most-lex (ltb-false d c t) (o c d l m h.0 k.0)) (k.1 e r q)),
    )

-- one of P 0, .. P (k - 1)
abbrev pub Below : (ℕ → ℕ → List ℕ → Type 0) → ℕ → ℕ → List ℕ → Type 0
Below P k c l = (j : ℕ) × (j < k) × P j c l

-- the scan is least for all that it looks at, if the lists of a smaller number come first
pub scan-least : {P : ℕ → ℕ → List ℕ → Type 0} (f : ℕ → Found (List ℕ))
    → ((j k c d : ℕ) (l m : List ℕ) → j < k → P j c l → P k d m → Lex l m)
    → ((j : ℕ) → Least (P j) (f j)) → (k : ℕ) → Least (Below P k) (scan f k)
unfolding scan
scan-least f o h zero = λ c l p. let b = p.1 in omega arith
scan-least {P} f o h (suc k) = least_iff (keep (scan f k) (f k)) to from
    (keep-least (scan f k) (f k) (λ c d l m p q. o p.0 k c d l m p.1 p.2 q) (scan-least f o h k) (h k))
  where
    to : (c : ℕ) (l : List ℕ) → Below P k c l ⊎ P k c l → Below P (suc k) c l
    to c l (inl p) = (p.0, omega arith, p.2)
    to c l (inr p) = (k, omega arith, p)

    from : (c : ℕ) (l : List ℕ) → Below P (suc k) c l → Below P k c l ⊎ P k c l
    from c l p = go (trich p.0 k)
      where
        go : Trich p.0 k → Below P k c l ⊎ P k c l
        go (below b) = inl (p.0, b, p.2)
        go (equal e) = inr (subst (λ j. P j c l) e p.2)
        go (above b) = let q = p.1 in absurd (omega arith)

-- what has P, with one allowed move more
pub data Stepped (b : Bool) (j x : ℕ) (P : ℕ → List ℕ → Type 0) : ℕ → List ℕ → Type 0 where
  stepped : {c : ℕ} {l : List ℕ} → b ≡ true → P c l → Stepped b j x P (c + x) (j ∷ l)

-- lists that begin with j come before those that begin with a greater k
pub stepped-lex : {a b : Bool} {x y : ℕ} {P Q : ℕ → List ℕ → Type 0} {j k c d : ℕ} {l m : List ℕ}
    → j < k → Stepped a j x P c l → Stepped b k y Q d m → Lex l m
stepped-lex h (stepped e p) (stepped f q) = here h

-- a step keeps what is least
pub step-least : (P : ℕ → List ℕ → Type 0) (b : Bool) (j x : ℕ) (y : Found (List ℕ)) → Least P y → Least (Stepped b j x P) (step b x (◌∷◌ j) y)
unfolding step
step-least P false j x y h = go
  where
    go : (c : ℕ) (l : List ℕ) → Stepped false j x P c l → ⊥
    go c l (stepped e p) = let z : ◌≡◌ {A = ℕ} 0 1 = cc in omega arith
step-least P true j x none h = go
  where
    go : (c : ℕ) (l : List ℕ) → Stepped true j x P c l → ⊥
    go c l (stepped {c = c'} {l = l'} e p) = h c' l' p
step-least P true j x (at c l) h = (stepped refl h.0, go)
  where
    go : (d : ℕ) (m : List ℕ) → Stepped true j x P d m → AtMost (c + x) (j ∷ l) d m
    go d m (stepped {c = d'} {l = m'} e p) = at_most-step j x (h.1 d' m' p)

-- `best G n i` is the least of the walks of n moves to i
pub best-least : (G : Graph) (n i : ℕ) → Least (Walk G n i) (best G n i)
unfolding best first
best-least G zero i = go (G.may i) refl
  where
    only : (c : ℕ) (l : List ℕ) → Walk G zero i c l → AtMost (G.start i) [] c l
    only c l (begin h) = at_most-refl (G.start i) []

    allowed : (c : ℕ) (l : List ℕ) → Walk G zero i c l → G.may i ≡ true
    allowed c l (begin h) = h

    go : (b : Bool) → G.may i ≡ b → Least (Walk G zero i) (first b (G.start i) [])
    go true e = (begin e, only)
    go false e = λ c l v. let f = allowed c l v in let z : ◌≡◌ {A = ℕ} 0 1 = cc in omega arith
best-least G (suc n) i = least_iff (best G (suc n) i) to from
    (scan-least {P = P} (λ j. step (G.ok n j i) (G.weight n j i) (◌∷◌ j) (best G n j)) (λ j k c d l m h p q. stepped-lex h p q)
    (λ j. step-least (Walk G n j) (G.ok n j i) j (G.weight n j i) (best G n j) (best-least G n j)) G.bound)
  where
    P : ℕ → ℕ → List ℕ → Type 0
    P j = Stepped (G.ok n j i) j (G.weight n j i) (Walk G n j)

    to : (c : ℕ) (l : List ℕ) → Below P G.bound c l → Walk G (suc n) i c l
    to c l p = go p.0 c l p.1 p.2
      where
        go : (j d : ℕ) (m : List ℕ) → j < G.bound → P j d m → Walk G (suc n) i d m
        go j d m b (stepped e v) = move v b e

    from : (c : ℕ) (l : List ℕ) → Walk G (suc n) i c l → Below P G.bound c l
    from c l (move {j = j} v b e) = (j, b, stepped e v)

-- `plan G n` is the least of all walks of n moves
pub plan-least : (G : Graph) (n : ℕ) → Least (Whole G n) (plan G n)
unfolding plan
plan-least G n = least_iff (plan G n) to from
    (scan-least {P = P} (λ i. step true 0 (◌∷◌ i) (best G n i)) (λ j k c d l m h p q. stepped-lex h p q)
    (λ i. step-least (Walk G n i) true i 0 (best G n i) (best-least G n i)) G.bound)
  where
    P : ℕ → ℕ → List ℕ → Type 0
    P i = Stepped true i 0 (Walk G n i)

    to : (c : ℕ) (l : List ℕ) → Below P G.bound c l → Whole G n c l
    to c l p = go p.0 c l p.1 p.2
      where
        go : (i d : ℕ) (m : List ℕ) → i < G.bound → P i d m → Whole G n d m
        go i d m b (stepped e v) = rw add-zero (whole b v)

    from : (c : ℕ) (l : List ℕ) → Whole G n c l → Below P G.bound c l
    from c l (whole {i = i} {l = m} b v) = (i, b, subst (λ d. P i d (i ∷ m)) (add-zero c) (stepped refl v))

-- there is one least cell
pub least-unique : (P : ℕ → List ℕ → Type 0) (x y : Found (List ℕ)) → Least P x → Least P y → x ≡ y
least-unique P none none h k = refl
least-unique P none (at d m) h k = absurd (h d m k.0)
least-unique P (at c l) none h k = absurd (k c l h.0)
least-unique P (at c l) (at d m) h k = let e = at_most-antisym (h.1 d m k.0) (k.1 c l h.0) in ap₂ at e.0 e.1

-- what a least cell says, by the equation that the cell is known by
module _ (P : ℕ → List ℕ → Type 0) (x : Found (List ℕ)) (h : Least P x) where
  -- it has P
  pub least-has : {c : ℕ} {l : List ℕ} → x ≡ at c l → P c l
  least-has e = (subst (Least P) e h).0

  -- it is at most all that has P
  pub least-at_most : {c d : ℕ} {l m : List ℕ} → x ≡ at c l → P d m → AtMost c l d m
  least-at_most {c} {d} {l} {m} e p = (subst (Least P) e h).1 d m p

  -- where it is none, nothing has P
  pub least-none : {c : ℕ} {l : List ℕ} → x ≡ none → P c l → ⊥
  least-none {c} {l} e p = (subst (Least P) e h) c l p

  -- where something has P the cell holds the least of it
  pub least-some : {d : ℕ} {m : List ℕ} → P d m → (c : ℕ) × (l : List ℕ) × (x ≡ at c l)
  least-some {d} {m} p = go x refl
    where
      go : (y : Found (List ℕ)) → x ≡ y → (c : ℕ) × (l : List ℕ) × (x ≡ at c l)
      go none e = absurd (least-none e p)
      go (at c l) e = (c, l, e)

  -- only one is least
  pub least-only : {d : ℕ} {m : List ℕ} → P d m → ((e : ℕ) (r : List ℕ) → P e r → AtMost d m e r) → x ≡ at d m
  least-only {d} {m} p k = go (least-some p)
    where
      go : (c : ℕ) × (l : List ℕ) × (x ≡ at c l) → x ≡ at d m
      go r = let a = at_most-antisym (least-at_most r.2 p) (k r.0 r.1 (least-has r.2)) in r.2 ∙ ap₂ at a.0 a.1

-- the walk found to i is a walk to i
pub best-walk : (G : Graph) (n i : ℕ) {c : ℕ} {l : List ℕ} → best G n i ≡ at c l → Walk G n i c l
best-walk G n i e = least-has (Walk G n i) (best G n i) (best-least G n i) e

-- and it is at most every walk of as many moves to i: in cost, and of equals in the order read from the last place back
pub best-at_most : (G : Graph) (n i : ℕ) {c d : ℕ} {l m : List ℕ} → best G n i ≡ at c l → Walk G n i d m → AtMost c l d m
best-at_most G n i e v = least-at_most (Walk G n i) (best G n i) (best-least G n i) e v

-- the recurrence finds a walk wherever there is one
pub best-some : (G : Graph) (n i : ℕ) {d : ℕ} {m : List ℕ} → Walk G n i d m → (c : ℕ) × (l : List ℕ) × (best G n i ≡ at c l)
best-some G n i v = least-some (Walk G n i) (best G n i) (best-least G n i) v

-- a walk to i that is at most every other is the one found
pub best-only : (G : Graph) (n i : ℕ) {d : ℕ} {m : List ℕ} → Walk G n i d m
    → ((e : ℕ) (r : List ℕ) → Walk G n i e r → AtMost d m e r) → best G n i ≡ at d m
best-only G n i v k = least-only (Walk G n i) (best G n i) (best-least G n i) v k

-- the better of two is one of them
pub keep_one : (x y : Found (List ℕ)) → (keep x y ≡ x) ⊎ (keep x y ≡ y)
unfolding keep
keep_one none y = inr refl
keep_one (at c l) none = inl refl
keep_one (at c l) (at d m) = go (ltb d c)
  where
    go : (b : Bool) → (cond b (at d m) (at c l) ≡ at c l) ⊎ (cond b (at d m) (at c l) ≡ at d m)
    go true = inr refl
    go false = inl refl

-- what a scan finds is one of the things that it looked at
pub scan-back : (f : ℕ → Found (List ℕ)) (k : ℕ) {c : ℕ} {l : List ℕ} → scan f k ≡ at c l → (j : ℕ) × (j < k) × (f j ≡ at c l)
unfolding scan
scan-back f zero e = let z : ◌≡◌ {A = ℕ} 0 1 = cc in absurd (omega arith)
scan-back f (suc k) {c} {l} e = go (keep_one (scan f k) (f k)) (λ x. scan-back f k x)
  where
    go : (keep (scan f k) (f k) ≡ scan f k) ⊎ (keep (scan f k) (f k) ≡ f k)
        → (scan f k ≡ at c l → (j : ℕ) × (j < k) × (f j ≡ at c l)) → (j : ℕ) × (j < suc k) × (f j ≡ at c l)
    go (inl p) r = let q = r (sym p ∙ e) in (q.0, omega arith, q.2)
    go (inr p) r = (k, omega arith, sym p ∙ e)

-- the walk found for i after n + 1 moves is the one found for some j after n, with one move more
pub data Back (G : Graph) (n i : ℕ) : ℕ → List ℕ → Type 0 where
  back : {j c : ℕ} {l : List ℕ} → j < G.bound → G.ok n j i ≡ true → best G n j ≡ at c l
      → Back G n i (c + G.weight n j i) (j ∷ l)

-- every walk that the recurrence finds is found so
pub best-back : (G : Graph) (n i : ℕ) {c : ℕ} {l : List ℕ} → best G (suc n) i ≡ at c l → Back G n i c l
unfolding best step
best-back G n i {c} {l} e = go (scan-back (λ j. step (G.ok n j i) (G.weight n j i) (◌∷◌ j) (best G n j)) G.bound e)
  where
    some : (j : ℕ) → j < G.bound → (b : Bool) (y : Found (List ℕ)) → G.ok n j i ≡ b → best G n j ≡ y
        → step b (G.weight n j i) (◌∷◌ j) y ≡ at c l → Back G n i c l
    some j h false y p q r = let z : ◌≡◌ {A = ℕ} 0 1 = cc in absurd (omega arith)
    some j h true none p q r = let z : ◌≡◌ {A = ℕ} 0 1 = cc in absurd (omega arith)
    some j h true (at d m) p q r =
        let f : d + G.weight n j i ≡ c = cc in
        let g : j ∷ m ≡ l = cc in
        subst₂ (Back G n i) f g (back h p q)

    go : (j : ℕ) × (j < G.bound) × (step (G.ok n j i) (G.weight n j i) (◌∷◌ j) (best G n j) ≡ at c l) → Back G n i c l
    go r = some r.0 r.1 (G.ok n r.0 i) (best G n r.0) refl refl r.2
