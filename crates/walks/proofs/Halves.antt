-- THE SPLIT: a best walk splits at its middle into the best walks of its halves, the second begun by the move from the first's last stop.
use mathlib.Core.Path.{◌≡◌}
use mathlib.Core.Bool.{true}
use mathlib.Core.List.{List, ◌∷◌, ◌++◌}
use Prim.Native.Nat.{ℕ, ◌+◌, ◌<◌, zero, suc}
use lib.ListN.{get_or}
use lib.Seq.{get_or_at}
use native.Mathlib.Nat.{add_assoc}
use native.Mathlib.Omega.{arith}
use Rattle.walks.proofs.Best.{best-walk, best-at_most, best-some}
use Rattle.walks.proofs.Prefer.{at_most-antisym, at_most-join}
use Rattle.walks.proofs.Walk.{walk-length}
use Rattle.walks.specs.Best.{at, best}
use Rattle.walks.specs.Halves.{past, after}
use Rattle.walks.specs.Walk.{Graph, Walk, begin, move}

-- it is the sum
pub past-sum : (n m : ℕ) → past n m ≡ n + m
past-sum zero m = omega arith
past-sum (suc n) m = omega (arith, past-sum n m)

-- a walk to q in place m and one from there make a walk
pub walk-join : {G : Graph} {m q n i c d : ℕ} {l r : List ℕ} → q < G.bound → Walk G m q c l → Walk (after G m q) n i d r
    → Walk G (suc (past n m)) i (c + d) (r ++ q ∷ l)
unfolding after
walk-join h v (begin o) = move v h o
walk-join {G} {m} {q} {c = c} {l = l} h v (move {n = n} {j = j} {c = d} {i = i} {l = r} u b o) =
    rw (← add_assoc) (move (walk-join h v u) b o)

-- every walk past place m is made so
pub data Split (G : Graph) (m n i : ℕ) : ℕ → List ℕ → Type 0 where
  split : {q c d : ℕ} {l r : List ℕ} → q < G.bound → Walk G m q c l → Walk (after G m q) n i d r
      → Split G m n i (c + d) (r ++ q ∷ l)

-- the two parts of a walk
pub walk_split : {G : Graph} {m : ℕ} (n : ℕ) {i c : ℕ} {l : List ℕ} → Walk G (suc (past n m)) i c l → Split G m n i c l
unfolding after
walk_split zero (move v b o) = split b v (begin o)
walk_split {G} {m} (suc n) (move {i = i} v b o) = go b o (walk_split n v)
  where
    go : {j d : ℕ} {r : List ℕ} → j < G.bound → G.ok (suc (past n m)) j i ≡ true → Split G m n j d r
        → Split G m (suc n) i (d + G.weight (suc (past n m)) j i) (j ∷ r)
    go b o (split h v u) = rw add_assoc (split h v (move u b o))

-- the best walk (c, l) to i, n + 1 places past place m, is two best walks around the stop q in place m
pub record Halves (G : Graph) (m n i q c : ℕ) (l : List ℕ) : Type 0 where
  pub stop : q < G.bound
  pub cost₁ : ℕ
  pub part₁ : List ℕ
  pub best₁ : best G m q ≡ at cost₁ part₁
  pub cost₂ : ℕ
  pub part₂ : List ℕ
  pub best₂ : best (after G m q) n i ≡ at cost₂ part₂
  pub costs : c ≡ cost₁ + cost₂
  pub parts : l ≡ part₂ ++ q ∷ part₁

-- the split for a walk that is taken apart already: replace both parts by the best ones, and the whole is not better
halves_of : (G : Graph) (m n i : ℕ) {c : ℕ} {l : List ℕ} → Split G m n i c l → best G (suc (past n m)) i ≡ at c l
    → Halves G m n i (get_or l n 0) c l
halves_of G m n i (split {q = q} {l = l} {r = r} h v u) e =
    let b₁ = best-some G m q v in
    let b₂ = best-some (after G m q) n i u in
    let v₁ = best-walk G m q b₁.2 in
    let v₂ = best-walk (after G m q) n i b₂.2 in
    let z = at_most-antisym (best-at_most G (suc (past n m)) i e (walk-join h v₁ v₂))
    (at_most-join q (best-at_most G m q b₁.2 v) (best-at_most (after G m q) n i b₂.2 u)) in
    rw (get_or_at r q l 0 n (walk-length u)) (record {
      stop = h;
      cost₁ = b₁.0;
      part₁ = b₁.1;
      best₁ = b₁.2;
      cost₂ = b₂.0;
      part₂ = b₂.1;
      best₂ = b₂.2;
      costs = z.0;
      parts = z.1;
    })

-- whatever stop the best walk has in place m, before it stands the best walk to that stop, and after it the best walk
-- from it
pub halves : (G : Graph) (m n i : ℕ) {c : ℕ} {l : List ℕ} → best G (suc (past n m)) i ≡ at c l → Halves G m n i (get_or l n 0) c l
halves G m n i e = halves_of G m n i (walk_split n (best-walk G (suc (past n m)) i e)) e
