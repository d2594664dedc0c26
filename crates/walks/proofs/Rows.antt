-- A row is the image of the best walks: the cost of the best walk to each stop, and its stop in the middle place.
use mathlib.Core.Path.{◌≡◌, refl, sym, ap, ◌∙◌, fun_ext}
use mathlib.Core.Bool.{Bool, true, false, cond}
use mathlib.Core.List.{List, [], ◌∷◌}
use Prim.Native.Nat.{ℕ, zero, suc, ◌-◌}
use borrow.Author.Tests.{leb-true, leb-false}
use lib.Dec.{ltb, leb}
use lib.ListN.{get_or}
use native.Mathlib.Nat.{zero-sub}
use native.Mathlib.Omega.{arith}
use Rattle.walks.specs.Best.{Found, none, at, keep, scan, first, step, best}
use Rattle.walks.specs.Rows.{told, costs, line}
use Rattle.walks.specs.Walk.{Graph}

module _ {A B : Type 0} (g : A → B) where
  -- the choice looks at costs alone
  pub told-keep : (x y : Found A) → told g (keep x y) ≡ keep (told g x) (told g y)
  unfolding told keep
  told-keep none y = refl
  told-keep (at c a) none = refl
  told-keep (at c a) (at d b) = go (ltb d c)
    where
      go : (t : Bool) → told g (cond t (at d b) (at c a)) ≡ cond t (at d (g b)) (at c (g a))
      go true = refl
      go false = refl

  -- so does the scan
  pub told-scan : (f : ℕ → Found A) (k : ℕ) → told g (scan f k) ≡ scan (λ j. told g (f j)) k
  unfolding told scan
  told-scan f zero = refl
  told-scan f (suc k) = told-keep (scan f k) (f k) ∙ ap (λ x. keep x (told g (f k))) (told-scan f k)

  -- and a first stop
  pub told-first : (b : Bool) (c : ℕ) (a : A) → told g (first b c a) ≡ first b c (g a)
  unfolding told first
  told-first true c a = refl
  told-first false c a = refl

-- told twice
pub told-told : {A B C : Type 0} (g : B → C) (h : A → B) (y : Found A) → told g (told h y) ≡ told (λ a. g (h a)) y
unfolding told
told-told g h none = refl
told-told g h (at c a) = refl

-- told after a step, and told before it
pub told-step : {A B C : Type 0} (g : B → C) (h : A → B) (b : Bool) (x : ℕ) (y : Found A)
    → told g (step b x h y) ≡ step b x (λ a. g (h a)) y
unfolding told step
told-step g h false x y = refl
told-step g h true x none = refl
told-step g h true x (at c a) = refl

-- told before a step
pub step-told : {A B C : Type 0} (g : B → C) (h : A → B) (b : Bool) (x : ℕ) (y : Found A)
    → step b x g (told h y) ≡ step b x (λ a. g (h a)) y
unfolding told step
step-told g h false x y = refl
step-told g h true x none = refl
step-told g h true x (at c a) = refl

-- one row from the row before: if row f tells T of the best walks of n moves, then a scan of f tells U of those of n + 1,
-- where g makes what U tells of a longer walk from what T tells of the shorter
pub next_row : {A : Type 0} (G : Graph) (n i : ℕ) (f : ℕ → Found A) (g : ℕ → A → A) (T : ℕ → List ℕ → A) (U : List ℕ → A)
    → ((j : ℕ) → f j ≡ told (T j) (best G n j)) → ((j : ℕ) (l : List ℕ) → g j (T j l) ≡ U (j ∷ l))
    → scan (λ j. step (G.ok n j i) (G.weight n j i) (g j) (f j)) G.bound ≡ told U (best G (suc n) i)
unfolding best
next_row G n i f g T U h k =
    ap (λ u. scan u G.bound) (fun_ext same)
    ∙ sym (told-scan U (λ j. step (G.ok n j i) (G.weight n j i) (◌∷◌ j) (best G n j)) G.bound)
  where
    same : (j : ℕ) → step (G.ok n j i) (G.weight n j i) (g j) (f j) ≡ told U (step (G.ok n j i) (G.weight n j i) (◌∷◌ j) (best G n j))
    same j = rw (h j, step-told, told-step) (ap (λ u. step (G.ok n j i) (G.weight n j i) u (best G n j)) (fun_ext (k j)))

-- the costs of the best walks
pub costs-are : (G : Graph) (n i : ℕ) → costs G n i ≡ told (λ l. tt) (best G n i)
unfolding costs best
costs-are G zero i = sym (told-first (λ l. tt) (G.may i) (G.start i) [])
costs-are G (suc n) i = next_row G n i (costs G n) (λ j a. a) (λ j l. tt) (λ l. tt) (costs-are G n) (λ j l. refl)

-- a row has the cost of the best walk to i, and its stop in place m (before place m: i)
pub line-is : (G : Graph) (m p i : ℕ) → line G m p i ≡ told (λ l. get_or (i ∷ l) (p - m) 0) (best G p i)
unfolding line best
line-is G m zero i = rw (zero-sub m) (sym (told-first (λ l. i) (G.may i) (G.start i) []))
line-is G m (suc p) i =
    rw (next_row G p i (line G m p) (λ j q. q) (λ j l. get_or (j ∷ l) (p - m) 0) (λ l. get_or l (p - m) 0) (line-is G m p) (λ j l. refl), told-told)
    (ap (λ g. told g (best G (suc p) i)) (fun_ext (λ l. go l (leb (suc p) m) refl)))
  where
    go : (l : List ℕ) (b : Bool) → leb (suc p) m ≡ b → cond b i (get_or l (p - m) 0) ≡ get_or (i ∷ l) (suc p - m) 0
    go l true e = let h = leb-true (suc p) m e in let z : suc p - m ≡ 0 = omega arith in rw z
    go l false e = let h = leb-false (suc p) m e in let z : suc p - m ≡ suc (p - m) = omega arith in rw z
