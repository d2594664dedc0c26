-- What is added to every move changes no best walk; what is raised or forbidden lowers no least cost.
use mathlib.Core.Path.{◌≡◌, sym, subst}
use mathlib.Core.List.{List, ◌∷◌}
use Prim.Native.Nat.{ℕ, ◌+◌, ◌≤◌, zero, suc, ◌*◌}
use native.Mathlib.Nat.{add-zero, suc-mul, zero-mul}
use native.Mathlib.Omega.{arith}
use Rattle.walks.proofs.Best.{best-least, least-unique, best-walk, best-at_most, best-some}
use Rattle.walks.proofs.Prefer.{at_most-cost, at_most-raise}
use Rattle.walks.specs.Best.{Found, none, at, best, Least}
use Rattle.walks.specs.Prefer.{AtMost}
use Rattle.walks.specs.Raise.{Eases, dearer, extra, raise}
use Rattle.walks.specs.Walk.{Graph, Walk, begin, move}

-- a walk of H is one of G, and not dearer there
pub walk-ease : {G H : Graph} {n i d : ℕ} {l : List ℕ} → Eases G H → Walk H n i d l → (c : ℕ) × (c ≤ d) × Walk G n i c l
walk-ease {G} r (begin {i = i} h) = (G.start i, r.starts i, begin (r.begins i h))
walk-ease {G} {H} r (move {n = n} {j = j} {i = i} v b o) =
    let k = walk-ease r v in
    (k.0 + G.weight n j i, omega (arith, k.1, r.weighs n j i), move k.2 (omega (arith, r.stops)) (r.moves n j i o))

-- to raise weights or to forbid more never lowers the least cost
pub best-raised : (G H : Graph) (n i : ℕ) {d : ℕ} {m : List ℕ} → Eases G H → best H n i ≡ at d m
    → (c : ℕ) × (l : List ℕ) × (best G n i ≡ at c l) × (c ≤ d)
best-raised G H n i r e =
    let k = walk-ease r (best-walk H n i e) in
    let b = best-some G n i k.2 in
    (b.0, b.1, b.2, omega (arith, at_most-cost (best-at_most G n i b.2 k.2), k.1))

-- the walks of the dearer graph are the same, at the cost with the extra
pub walk-dearer : {G : Graph} {n i c : ℕ} {l : List ℕ} (k : ℕ → ℕ) → Walk G n i c l → Walk (dearer k G) n i (c + extra k n) l
unfolding dearer extra
walk-dearer k (begin h) = rw add-zero (begin h)
walk-dearer {G} k (move {n = n} {j = j} {c = c} {i = i} {l = l} v b o) =
    let e : c + extra k n + (G.weight n j i + k n) ≡ c + G.weight n j i + (extra k n + k n) = omega arith in
    subst (λ x. Walk (dearer k G) (suc n) i x (j ∷ l)) e (move (walk-dearer k v) b o)

-- and back: without the extra a walk of the dearer graph is one of the graph
pub walk-cheaper : (k : ℕ → ℕ) (G : Graph) {n i d : ℕ} {l : List ℕ} → Walk (dearer k G) n i d l
    → (c : ℕ) × (c + extra k n ≡ d) × Walk G n i c l
unfolding dearer extra
walk-cheaper k G (begin {i = i} h) = (G.start i, add-zero (G.start i), begin h)
walk-cheaper k G (move {n = n} {j = j} {i = i} v b o) =
    let r = walk-cheaper k G v in (r.0 + G.weight n j i, omega (arith, r.1), move r.2 b o)

-- what is added to all moves of a place changes no best walk, and is added to its cost
pub best-dearer : (k : ℕ → ℕ) (G : Graph) (n i : ℕ) → best (dearer k G) n i ≡ raise (extra k n) (best G n i)
unfolding raise
best-dearer k G n i = least-unique (Walk (dearer k G) n i) (best (dearer k G) n i) (raise (extra k n) (best G n i))
    (best-least (dearer k G) n i) (raised (best G n i) (best-least G n i))
  where
    raised : (x : Found (List ℕ)) → Least (Walk G n i) x → Least (Walk (dearer k G) n i) (raise (extra k n) x)
    raised none h = λ d m v. let r = walk-cheaper k G v in h r.0 m r.2
    raised (at c l) h = (
      walk-dearer k h.0,
      λ d m v. let r = walk-cheaper k G v in
          subst (λ x. AtMost (c + extra k n) l x m) r.1 (at_most-raise (extra k n) (h.1 r.0 m r.2)),
    )

-- one and the same x more for every move: n * x for n moves
pub extra-same : (x n : ℕ) → extra (λ p. x) n ≡ n * x
unfolding extra
extra-same x zero = sym (zero-mul x)
extra-same x (suc n) = rw (suc-mul, extra-same x n)
