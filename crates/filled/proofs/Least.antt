-- THE TABLE FINDS THE LEAST LIST. Let the stops below v, 2^m of them, fill an aligned block of 2^m places, and let the row of the block's first
-- place hold for each of these stops the best way to come to it as the first of them. Then the row of the block's last place holds for
-- each of them the best list of v that ends there (`row-least`). One fork down: the side that comes first has the same first place; the
-- side that comes second begins in a place with m trailing zero bits, whose row says what the best last stop of the first side is to
-- come from, and if that side is empty what came before both. A list of v that ends on one side is a list of the other and then one of
-- this side, so nothing else is to be weighed. At each choice a list with the smaller stop comes before one with the greater, read from the
-- end: that is the whole rule for equals.
use mathlib.Core.Path.{◌≡◌, refl, sym, ap, subst, ◌∙◌}
use mathlib.Core.Bool.{Bool, true, false, cond, true≢false, false≢true}
use mathlib.Core.List.{List, [], ◌∷◌, ◌++◌, append-nil}
use Prim.Native.Nat.{ℕ, zero, suc, ◌+◌, ◌*◌, ◌-◌, ◌%◌, ◌^◌, ◌<◌}
use native.Mathlib.Nat.{pow-succ', add-mul, one-mul, mul_left_comm, mul_assoc, zero-mul, add-zero}
use native.Mathlib.Omega.{arith}
use borrow.Author.Tests.{eq-eqb, eqb-true}
use lib.Dec.{eqb}
use lib.Pow.{pow_pos}
use Rattle.tree.specs.Fork.{side, stop_of}
use Rattle.tree.specs.Neighbour.{reach}
use Rattle.tree.proofs.Beside.{trail-join}
use Rattle.walks.specs.Best.{Found, at, first, scan, step, Least}
use Rattle.walks.specs.Prefer.{same}
use Rattle.walks.proofs.Best.{least_iff, Below, scan-least, Stepped, stepped, stepped-lex, step-least}
use Rattle.filled.specs.Forks.{filled_below, above}
use Rattle.filled.specs.Table.{sibling, beside_filled, from_beside, table_at, last_row}
use Rattle.filled.proofs.Bools.{neither}
use Rattle.filled.proofs.Arranged.{Arranged, cons-nil, arranged-head, arranged-nil}
use Rattle.filled.proofs.Backward.{moves_to, joined}
use Rattle.filled.proofs.Levels.{Level, level-root, level-side, level-stop, above_half, above_zero, sibling-side, stop-filled}
use Rattle.filled.proofs.Recurrence.{table-zero, table_empty, table_beside, table-skip}

-- what may come before a stop, with its cost: a predicate for each stop
abbrev pub Before : Type 1
Before = ℕ → ℕ → List ℕ → Type 0

-- a step keeps what is least, where it is allowed
step-where : (P : ℕ → List ℕ → Type 0) (b : Bool) (j x : ℕ) (y : Found (List ℕ)) → (b ≡ true → Least P y) → Least (Stepped b j x P) (step b x (◌∷◌ j) y)
unfolding step
step-where P true j x y h = step-least P true j x y (h refl)
step-where P false j x y h = go
  where
    go : (c : ℕ) (l : List ℕ) → Stepped false j x P c l → ⊥
    go c l (stepped e p) = false≢true e

-- how a list that begins with j is made of two: the first is empty, or begins with j
data Begins (j : ℕ) (u : List ℕ) : List ℕ → List ℕ → Type 0 where
  second : Begins j u [] (j ∷ u)
  first_of : (x y : List ℕ) → x ++ y ≡ u → Begins j u (j ∷ x) y

begins : (j : ℕ) (u x y : List ℕ) → j ∷ u ≡ x ++ y → Begins j u x y
begins j u [] y e = subst (Begins j u []) e second
begins j u (i ∷ x) y e =
    let f : j ≡ i = cc in
    let g : x ++ y ≡ u = cc in
    subst (λ z. Begins j u (z ∷ x) y) f (first_of x y g)

module _ (k : ℕ) (s : ℕ → Bool) (t : ℕ → ℕ → ℕ) where
  -- a fork without filled stops has the empty list
  hollow : (m v : ℕ) → filled_below k s m v ≡ false → Arranged k s m v []
  unfolding filled_below
  hollow zero v h = rw h
  hollow (suc m) v h =
      let n = neither (filled_below k s m (side v 0)) (filled_below k s m (side v 1)) h in
      (0, [], [], omega arith, hollow m (side v 0) n.0, hollow m (side v 1) n.1, refl)

  -- the moves of a list after F: j is its last stop and u the others, the last first
  abbrev pub Along : Before → ℕ → List ℕ → ℕ → List ℕ → Type 0
  Along F j [] = F j
  Along F j (i ∷ u) = Stepped true i (t i j) (Along F i u)

  -- a list of v that ends in j, after F
  abbrev pub Way : ℕ → ℕ → Before → ℕ → ℕ → List ℕ → Type 0
  Way m v F j c l = (u : List ℕ) × Arranged k s m v (j ∷ u) × Along F j u c l

  -- what may come before a stop that follows v, where v has a filled stop and where it has none
  abbrev pub After : Bool → ℕ → ℕ → Before → Before
  After false m v F h = F h
  After true m v F h = Below (λ j. Stepped (eqb (above k m j) v) j (t j h) (Way m v F j)) (2 ^ k)

  -- a list of v, a move, and the stops u
  along-join : (m v : ℕ) → Level k m v → (F : Before) (i : ℕ) (r : List ℕ) → Arranged k s m v (i ∷ r) → (j : ℕ) (u : List ℕ) (c : ℕ) (l : List ℕ)
      → Along F j (u ++ i ∷ r) c l → Along (After true m v F) j u c l
  along-join m v h F i r a j [] c l (stepped e p) =
      let g : above k m i ≡ v = (arranged-head k s m v i r h a).0 in
      (i, level-stop k m v i h g, stepped (eq-eqb (above k m i) v g) (r, a, p))
  along-join m v h F i r a j (x ∷ u) c l (stepped {c = d} {l = w} e p) = stepped refl (along-join m v h F i r a x u d w p)

  -- and back
  data Parted (m v : ℕ) (F : Before) (j : ℕ) (u : List ℕ) (c : ℕ) (l : List ℕ) : Type 0 where
    parted : (i : ℕ) (r : List ℕ) → Arranged k s m v (i ∷ r) → Along F j (u ++ i ∷ r) c l → Parted m v F j u c l

  along-part : (m v : ℕ) (F : Before) (j : ℕ) (u : List ℕ) (c : ℕ) (l : List ℕ) → Along (After true m v F) j u c l → Parted m v F j u c l
  along-part m v F j [] c l (i, b, q) = go c l q
    where
      go : (c : ℕ) (l : List ℕ) → Stepped (eqb (above k m i) v) i (t i j) (Way m v F i) c l → Parted m v F j [] c l
      go c l (stepped e w) = parted i w.0 w.1 (stepped refl w.2)
  along-part m v F j (x ∷ u) c l (stepped {c = d} {l = w} e p) = go (along-part m v F x u d w p)
    where
      go : Parted m v F x u d w → Parted m v F j (x ∷ u) (d + t x j) (x ∷ w)
      go (parted i r a q) = parted i r a (stepped refl q)

  -- one fork: j is on side b, and `other` is the other side
  module _ (m v b : ℕ) (b-side : b < 2) (h : Level k (suc m) v) (F : Before) (j c : ℕ) (l : List ℕ) where
    abbrev other : ℕ
    other = side v (1 - b)

    -- a list of side b that ends in j, after the other side, is one of the fork
    sides-to : Way m (side v b) (After (filled_below k s m other) m other F) j c l → Way (suc m) v F j c l
    sides-to w = go (filled_below k s m other) refl w
      where
        part : (u : List ℕ) → Arranged k s m (side v b) (j ∷ u) → Parted m other F j u c l → Way (suc m) v F j c l
        part u p (parted i r q e) = (u ++ i ∷ r, (b, j ∷ u, i ∷ r, b-side, p, q, refl), e)

        go : (x : Bool) → filled_below k s m other ≡ x → Way m (side v b) (After x m other F) j c l → Way (suc m) v F j c l
        go false e (u, p, q) = (u, (b, j ∷ u, [], b-side, p, hollow m other e, sym (append-nil (j ∷ u))), q)
        go true e (u, p, q) = part u p (along-part m other F j u c l q)

    -- the other side comes first: it is empty, or has a last stop r
    after-empty : Arranged k s m other [] → (u : List ℕ) → Arranged k s m (side v b) (j ∷ u) → Along F j u c l
        → Way m (side v b) (After (filled_below k s m other) m other F) j c l
    after-empty q u p a = subst (λ z. Way m (side v b) (After z m other F) j c l) (sym (arranged-nil k s m other q)) (u, p, a)

    after-some : (i : ℕ) (r : List ℕ) → Arranged k s m other (i ∷ r) → (u : List ℕ) → Arranged k s m (side v b) (j ∷ u) → Along F j (u ++ i ∷ r) c l
        → Way m (side v b) (After (filled_below k s m other) m other F) j c l
    after-some i r q u p a =
        let g : Level k m other = level-side k m v (1 - b) (omega arith) h in
        let e = arranged-head k s m other i r g q in
        subst (λ z. Way m (side v b) (After z m other F) j c l) (sym (stop-filled k s m other i g e.0 e.1))
        (u, p, along-join m other g F i r q j u c l a)

    -- a list of the fork that ends in j is so made
    sides-from : above k m j ≡ side v b → Way (suc m) v F j c l → Way m (side v b) (After (filled_below k s m other) m other F) j c l
    sides-from e (u, (b', x, y, i, p, q, f), a) = go (begins j u x y f) p q
      where
        -- the list that j stands in is of side b
        own : (d : ℕ) → d < 2 → (r : List ℕ) → Arranged k s m (side v d) (j ∷ r) → d ≡ b
        own d i r p = omega (arith, (arranged-head k s m (side v d) j r (level-side k m v d i h) p).0)

        go : {x y : List ℕ} → Begins j u x y → Arranged k s m (side v b') x → Arranged k s m (side v (1 - b')) y
            → Way m (side v b) (After (filled_below k s m other) m other F) j c l
        go second p q =
            let z : 1 - b' ≡ b = own (1 - b') (omega arith) u q in
            let w : b' ≡ 1 - b = omega arith in
            after-empty (rw w at p) u (rw z at q) a
        go (first_of x [] g) p q =
            let z : b' ≡ b = own b' i x p in
            after-empty (rw z at q) x (rw z at p) (subst (λ r. Along F j r c l) (sym g ∙ append-nil x) a)
        go (first_of x (i' ∷ y) g) p q =
            let z : b' ≡ b = own b' i x p in
            after-some i' y (rw z at q) x (rw z at p) (subst (λ r. Along F j r c l) (sym g) a)

  -- a stop's only list is the stop
  stop-least : (v : ℕ) → Level k 0 v → (F : Before) (f : ℕ → Found (List ℕ)) (j : ℕ) → above k 0 j ≡ v → s j ≡ true → Least (F j) (f j) → Least (Way 0 v F j) (f j)
  stop-least v h F f j e g p = least_iff (f j) to from p
    where
      own : stop_of k v ≡ j
      own = omega (arith, above_zero k j)

      to : (c : ℕ) (l : List ℕ) → F j c l → Way 0 v F j c l
      to c l q = ([], rw (own, g), q)

      from : (c : ℕ) (l : List ℕ) → Way 0 v F j c l → F j c l
      from c l ([], a, q) = q
      from c l (i ∷ u, a, q) = let z : i ∷ u ≡ [] = one (s (stop_of k v)) a in absurd (cons-nil z)
        where
          one : (b : Bool) → j ∷ i ∷ u ≡ cond b (stop_of k v ∷ []) [] → i ∷ u ≡ []
          one true a = cc
          one false a = absurd (cons-nil a)

  -- the places of a pair of blocks
  pair-first : (b m : ℕ) → b * 2 ^ suc m ≡ 2 * b * 2 ^ m
  pair-first b m = ap (λ x. b * x) (pow-succ' 2 m) ∙ mul_left_comm b 2 (2 ^ m) ∙ sym (mul_assoc 2 b (2 ^ m))

  pair-mid : (b m : ℕ) → (2 * b + 1) * 2 ^ m ≡ 2 * b * 2 ^ m + 2 ^ m
  pair-mid b m = omega (arith, add-mul (2 * b) 1 (2 ^ m), one-mul (2 ^ m))

  -- the side o, which comes first in the places from 2b 2^m on
  module _ (m o : ℕ) (h : Level k m o) (F : Before) (b : ℕ)
      (before : (i : ℕ) → above k m i ≡ o → s i ≡ true → Least (Way m o F i) (table_at k s t (2 * b * 2 ^ m + (2 ^ m - 1)) i)) where
    -- all of its stops, empty ones too
    each : (j : ℕ) → above k m j ≡ o → Least (Way m o F j) (table_at k s t (2 * b * 2 ^ m + (2 ^ m - 1)) j)
    each j e = go (s j) refl
      where
        go : (x : Bool) → s j ≡ x → Least (Way m o F j) (table_at k s t (2 * b * 2 ^ m + (2 ^ m - 1)) j)
        go true f = before j e f
        go false f = subst (Least (Way m o F j)) (sym (table_empty k s t (2 * b * 2 ^ m + (2 ^ m - 1)) j f))
            (λ c l w. absurd (true≢false (sym (arranged-head k s m o j w.0 h w.1).1 ∙ f)))

    -- what comes before a stop i beside it
    next-least : (i : ℕ) → s i ≡ true → sibling k m i ≡ o → Least (F i) (table_at k s t (2 * b * 2 ^ m) i)
        → Least (After (filled_below k s m o) m o F i) (table_at k s t ((2 * b + 1) * 2 ^ m) i)
    unfolding from_beside reach
    next-least i f e start = go (filled_below k s m o) refl
      where
        p : ℕ
        p = (2 * b + 1) * 2 ^ m

        pos : 0 < p
        pos = omega (arith, pair-mid b m, pow_pos m)

        beside : beside_filled k s p i ≡ filled_below k s m o
        beside = rw (trail-join b m, e)

        go : (x : Bool) → filled_below k s m o ≡ x → Least (After x m o F i) (table_at k s t p i)
        go false g = subst (Least (F i)) (sym (table-skip k s t p i pos (beside ∙ g) ∙ ap (λ q. table_at k s t q i) back)) start
          where
            back : p - reach p ≡ 2 * b * 2 ^ m
            back = rw (trail-join b m) (omega (arith, pair-mid b m))
        go true g = subst (Least (After true m o F i)) (sym cell)
            (scan-least {P = λ j. Stepped (eqb (above k m j) o) j (t j i) (Way m o F j)} (λ j. step (eqb (above k m j) o) (t j i) (◌∷◌ j) (table_at k s t (2 * b * 2 ^ m + (2 ^ m - 1)) j))
            (λ x y c d l r b p q. stepped-lex b p q)
            (λ j. step-where (Way m o F j) (eqb (above k m j) o) j (t j i) (table_at k s t (2 * b * 2 ^ m + (2 ^ m - 1)) j) (λ a. each j (eqb-true (above k m j) o a))) (2 ^ k))
          where
            back : p - 1 ≡ 2 * b * 2 ^ m + (2 ^ m - 1)
            back = omega (arith, pair-mid b m, pow_pos m)

            cell : table_at k s t p i ≡ scan (λ j. step (eqb (above k m j) o) (t j i) (◌∷◌ j) (table_at k s t (2 * b * 2 ^ m + (2 ^ m - 1)) j)) (2 ^ k)
            cell = table_beside k s t p i pos f (beside ∙ g) ∙ rw (back, trail-join b m, e)

  -- THE ROW OF THE LAST PLACE OF A BLOCK OF PLACES IS LEAST, if that of the first is
  pub row-least : (m b v : ℕ) → Level k m v → (F : Before) → ((i : ℕ) → above k m i ≡ v → s i ≡ true → Least (F i) (table_at k s t (b * 2 ^ m) i))
      → (j : ℕ) → above k m j ≡ v → s j ≡ true → Least (Way m v F j) (table_at k s t (b * 2 ^ m + (2 ^ m - 1)) j)
  row-least zero b v h F first j e f =
      let z : b * 2 ^ 0 + (2 ^ 0 - 1) ≡ b * 2 ^ 0 = omega arith in
      rw z (stop-least v h F (table_at k s t (b * 2 ^ 0)) j e f (first j e f))
  row-least (suc m) b v h F first j e f =
      let c : ℕ = above k m j % 2 in
      let o : ℕ = side v (1 - c) in
      let own : above k m j ≡ side v c = omega (arith, above_half k m j) in
      let from_first : (i : ℕ) → above k (suc m) i ≡ v → s i ≡ true → Least (F i) (table_at k s t (2 * b * 2 ^ m) i) = rw (pair-first b m) at first in
      let up : (d i : ℕ) → d < 2 → above k m i ≡ side v d → above k (suc m) i ≡ v = λ d i l a. sym (above_half k m i) ∙ omega arith in
      let lo : Level k m o = level-side k m v (1 - c) (omega arith) h in
      let before = row-least m (2 * b) o lo F (λ i a g. from_first i (up (1 - c) i (omega arith) a) g) in
      let last = row-least m (2 * b + 1) (side v c) (level-side k m v c (omega arith) h) (After (filled_below k s m o) m o F)
      (λ i a g. next-least m o lo F b before i g (sibling-side k m v c i (omega arith) a) (from_first i (up c i (omega arith) a) g)) j own f in
      let place : (2 * b + 1) * 2 ^ m + (2 ^ m - 1) ≡ b * 2 ^ suc m + (2 ^ suc m - 1) = omega (arith, pair-first b m, pair-mid b m, pow-succ' 2 m, pow_pos m) in
      least_iff (table_at k s t (b * 2 ^ suc m + (2 ^ suc m - 1)) j) (sides-to m v c (omega arith) h F j) (λ d l. sides-from m v c (omega arith) h F j d l own)
      (rw place at last)

  -- ---- the whole list

  -- before the first stop is nothing
  abbrev Nothing : Before
  Nothing h c l = (c ≡ 0) × (l ≡ [])

  -- the moves of a list after nothing are its total
  along-nothing : (j : ℕ) (u : List ℕ) (c : ℕ) (l : List ℕ) → Along Nothing j u c l → (c ≡ moves_to t j u) × (l ≡ u)
  unfolding moves_to
  along-nothing j [] c l p = p
  along-nothing j (i ∷ u) c l (stepped {c = d} {l = w} e p) =
      let q = along-nothing i u d w p in (ap (λ x. x + t i j) q.0, ap (◌∷◌ i) q.1)

  -- and back
  nothing-along : (j : ℕ) (u : List ℕ) → Along Nothing j u (moves_to t j u) u
  unfolding moves_to
  nothing-along j [] = (refl, refl)
  nothing-along j (i ∷ u) = stepped refl (nothing-along i u)

  -- a list of the tree, with its total
  abbrev pub Costed : ℕ → List ℕ → Type 0
  Costed c l = Arranged k s k 1 l × (c ≡ joined t l)

  -- the lists by their last stop
  abbrev Ending : ℕ → ℕ → List ℕ → Type 0
  Ending j = Stepped (eqb (above k k j) 1) j 0 (Way k 1 Nothing j)

  ending-costed : (c : ℕ) (l : List ℕ) → Below Ending (2 ^ k) c l → Costed c l
  unfolding joined
  ending-costed c l (j, b, p) = go c l p
    where
      go : (c : ℕ) (l : List ℕ) → Ending j c l → Costed c l
      go c l (stepped {c = d} {l = w} h (u, a, q)) =
          let r = along-nothing j u d w q in
          (rw r.1 a, rw (add-zero d, r.1) r.0)

  costed-ending : filled_below k s k 1 ≡ true → (c : ℕ) (l : List ℕ) → Costed c l → Below Ending (2 ^ k) c l
  unfolding joined
  costed-ending f c [] (a, e) = absurd (true≢false (sym f ∙ arranged-nil k s k 1 a))
  costed-ending f c (j ∷ u) (a, e) =
      let g : above k k j ≡ 1 = (arranged-head k s k 1 j u (level-root k) a).0 in (
        j,
        level-stop k k 1 j (level-root k) g,
        subst (λ x. Ending j x (j ∷ u)) (add-zero (moves_to t j u) ∙ sym e) (stepped (eq-eqb (above k k j) 1 g) (u, a, nothing-along j u)),
      )

  -- a stop in the last place
  last-least : (j : ℕ) → above k k j ≡ 1 → Least (Way k 1 Nothing j) (table_at k s t (2 ^ k - 1) j)
  unfolding first
  last-least j e = go (s j) refl
    where
      z : 0 * 2 ^ k ≡ 0
      z = zero-mul (2 ^ k)

      start : (i : ℕ) → above k k i ≡ 1 → s i ≡ true → Least (Nothing i) (table_at k s t (0 * 2 ^ k) i)
      start i g f =
          let cell : table_at k s t (0 * 2 ^ k) i ≡ at 0 [] = ap (λ p. table_at k s t p i) z ∙ table-zero k s t i ∙ rw f in
          subst (Least (Nothing i)) (sym cell) ((refl, refl), λ c l p. same (sym p.0) (sym p.1))

      place : 0 * 2 ^ k + (2 ^ k - 1) ≡ 2 ^ k - 1
      place = omega (arith, z)

      go : (x : Bool) → s j ≡ x → Least (Way k 1 Nothing j) (table_at k s t (2 ^ k - 1) j)
      go true f = rw place at (row-least k 0 1 (level-root k) Nothing start j e f)
      go false f = subst (Least (Way k 1 Nothing j)) (sym (table_empty k s t (2 ^ k - 1) j f))
          (λ c l w. absurd (true≢false (sym (arranged-head k s k 1 j w.0 (level-root k) w.1).1 ∙ f)))

  -- THE LAST ROW HOLDS THE LEAST LIST, where a stop is filled
  pub last_row-least : filled_below k s k 1 ≡ true → Least Costed (last_row k s t)
  unfolding last_row
  last_row-least f = least_iff (last_row k s t) ending-costed (costed-ending f)
      (scan-least {P = Ending} (λ j. step (eqb (above k k j) 1) 0 (◌∷◌ j) (table_at k s t (2 ^ k - 1) j)) (λ x y c d l r b p q. stepped-lex b p q)
      (λ j. step-where (Way k 1 Nothing j) (eqb (above k k j) 1) j 0 (table_at k s t (2 ^ k - 1) j) (λ a. last-least j (eqb-true (above k k j) 1 a))) (2 ^ k))
