-- Places counted from the front of the whole order: a part of it from place a on, and the split for such parts.
use mathlib.Core.Path.{◌≡◌, sym, ap, ap₂, subst, ◌∙◌, fun_ext}
use mathlib.Core.Bool.{Bool}
use mathlib.Core.List.{List, ◌∷◌, ◌++◌}
use Prim.Native.Nat.{ℕ, ◌+◌, ◌≤◌, ◌<◌, suc, ◌-◌}
use lib.ListN.{get_or}
use native.Mathlib.Omega.{arith}
use Rattle.walks.proofs.Halves.{past-sum, halves}
use Rattle.walks.proofs.Places.{stops_same, stops_join}
use Rattle.walks.proofs.Rows.{line-is}
use Rattle.walks.specs.Best.{at, best}
use Rattle.walks.specs.Halves.{past, after, segment}
use Rattle.walks.specs.Places.{stops_to}
use Rattle.walks.specs.Rows.{told, line}
use Rattle.walks.specs.Walk.{Graph}

-- stops below N; `ok p j i` and `w p j i`: stop i may follow j in place p, and the cost of that
module _ (N : ℕ) (ok : ℕ → ℕ → ℕ → Bool) (w : ℕ → ℕ → ℕ → ℕ) where
  -- what is left after stop q in place a + m is a segment from the next place on
  pub after-segment : (a m : ℕ) (may : ℕ → Bool) (s : ℕ → ℕ) (q : ℕ)
      → after (segment N ok w a may s) m q ≡ segment N ok w (suc (past a m)) (ok (suc (past a m)) q) (w (suc (past a m)) q)
  unfolding after segment
  after-segment a m may s q = ap₂ make (fun_ext (λ n. ap ok (places n))) (fun_ext (λ n. ap w (places n)))
    where
      make : (ℕ → ℕ → ℕ → Bool) → (ℕ → ℕ → ℕ → ℕ) → Graph
      make u v = record { bound = N; may = ok (suc (past a m)) q; start = w (suc (past a m)) q; ok = u; weight = v }

      places : (n : ℕ) → suc (past a (suc (past n m))) ≡ suc (past (suc (past a m)) n)
      places n = omega (arith, past-sum a (suc (past n m)), past-sum n m, past-sum (suc (past a m)) n, past-sum a m)

  -- the split by places a ≤ mid < b: the best walk over a .. b has stop q in place mid, before it the best walk over a .. mid to q,
  -- and after it the best walk over mid + 1 .. b, begun by the move from q
  pub record Parts (a mid b : ℕ) (may : ℕ → Bool) (s : ℕ → ℕ) (i q c : ℕ) (l : List ℕ) : Type 0 where
    pub stop : q < N
    pub cost₁ : ℕ
    pub part₁ : List ℕ
    pub best₁ : best (segment N ok w a may s) (mid - a) q ≡ at cost₁ part₁
    pub cost₂ : ℕ
    pub part₂ : List ℕ
    pub best₂ : best (segment N ok w (suc mid) (ok (suc mid) q) (w (suc mid) q)) (b - suc mid) i ≡ at cost₂ part₂
    pub costs : c ≡ cost₁ + cost₂
    pub parts : l ≡ part₂ ++ q ∷ part₁

  -- the split by places
  pub parted : (a mid b : ℕ) (may : ℕ → Bool) (s : ℕ → ℕ) (i : ℕ) {c : ℕ} {l : List ℕ} → a ≤ mid → mid < b
      → best (segment N ok w a may s) (b - a) i ≡ at c l → Parts a mid b may s i (get_or l (b - suc mid) 0) c l
  unfolding segment
  parted a mid b may s i {c} {l} h k e =
      let d : b - a ≡ suc (past (b - suc mid) (mid - a)) = omega (arith, past-sum (b - suc mid) (mid - a)) in
      let p : past a (mid - a) ≡ mid = omega (arith, past-sum a (mid - a)) in
      let r = halves (segment N ok w a may s) (mid - a) (b - suc mid) i (rw d at e) in
      let q : ℕ = get_or l (b - suc mid) 0 in
      let g : after (segment N ok w a may s) (mid - a) q ≡ segment N ok w (suc mid) (ok (suc mid) q) (w (suc mid) q)
      = after-segment a (mid - a) may s q ∙ ap (λ x. segment N ok w (suc x) (ok (suc x) q) (w (suc x) q)) p in
      record {
        stop = r.stop;
        cost₁ = r.cost₁;
        part₁ = r.part₁;
        best₁ = r.best₁;
        cost₂ = r.cost₂;
        part₂ = r.part₂;
        best₂ = subst (λ G. best G (b - suc mid) i ≡ at r.cost₂ r.part₂) g r.best₂;
        costs = r.costs;
        parts = r.parts;
      }

  -- THE RECURSION ON AN ARRAY o: place b holds its stop and place mid its pivot; if the two parts are then filled with their
  -- best walks, the whole is
  pub filled : (a mid b : ℕ) (may : ℕ → Bool) (s o : ℕ → ℕ) {c : ℕ} {l : List ℕ} → a ≤ mid → mid < b
      → best (segment N ok w a may s) (b - a) (o b) ≡ at c l → o mid ≡ get_or l (b - suc mid) 0
      → ((d : ℕ) (r : List ℕ) → best (segment N ok w a may s) (mid - a) (o mid) ≡ at d r → stops_to (λ k. o (past a k)) (mid - a) ≡ r)
      → ((d : ℕ) (r : List ℕ) → best (segment N ok w (suc mid) (ok (suc mid) (o mid)) (w (suc mid) (o mid))) (b - suc mid) (o b) ≡ at d r
      → stops_to (λ k. o (past (suc mid) k)) (b - suc mid) ≡ r)
      → stops_to (λ k. o (past a k)) (b - a) ≡ l
  filled a mid b may s o {c} {l} h k e q f g =
      let r : Parts a mid b may s (o b) (o mid) c l = subst (λ x. Parts a mid b may s (o b) x c l) (sym q) (parted a mid b may s (o b) h k e) in
      let d : b - a ≡ suc (past (b - suc mid) (mid - a)) = omega (arith, past-sum (b - suc mid) (mid - a)) in
      let p : past a (mid - a) ≡ mid = omega (arith, past-sum a (mid - a)) in
      ap (stops_to (λ x. o (past a x))) d
      ∙ stops_join (λ x. o (past a x)) (mid - a) (b - suc mid)
      ∙ ap₂ (λ x y. x ++ y)
      (stops_same _ (λ x. o (past (suc mid) x)) (b - suc mid) (λ x y. ap o (later x)) ∙ g r.cost₂ r.part₂ r.best₂)
      (ap₂ ◌∷◌ (ap o p) (f r.cost₁ r.part₁ r.best₁))
      ∙ sym r.parts
    where
      later : (x : ℕ) → past a (suc (past x (mid - a))) ≡ past (suc mid) x
      later x = omega (arith, past-sum a (suc (past x (mid - a))), past-sum x (mid - a), past-sum (suc mid) x)

  -- the pivot of the last row is that stop
  pub pivot-row : (a mid b : ℕ) (may : ℕ → Bool) (s : ℕ → ℕ) (i : ℕ) → a ≤ mid → mid < b
      → line (segment N ok w a may s) (mid - a) (b - a) i ≡ told (λ l. get_or l (b - suc mid) 0) (best (segment N ok w a may s) (b - a) i)
  pivot-row a mid b may s i h k =
      let z : b - a - (mid - a) ≡ suc (b - suc mid) = omega arith in
      line-is (segment N ok w a may s) (mid - a) (b - a) i ∙ ap (λ n. told (λ l. get_or (i ∷ l) n 0) (best (segment N ok w a may s) (b - a) i)) z
