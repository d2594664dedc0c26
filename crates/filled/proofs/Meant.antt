-- THE FORKS OF A LIST ARE DETERMINED: the set that is read off a list's moves gives it and spares the forks with an empty side, and no other set does.
use mathlib.Core.Path.{◌≡◌, refl, sym, ap, ◌∙◌}
use mathlib.Core.Bool.{Bool, true, false, cond, ◌&&◌, true≢false, false≢true}
use mathlib.Core.List.{List, [], ◌∷◌}
use mathlib.Core.Logic.{◌⊎◌, inl, inr, ⊎_elim}
use Prim.Native.Nat.{ℕ, zero, suc, ◌+◌, ◌*◌, ◌-◌, ◌/◌, ◌%◌, ◌^◌, ◌<◌}
use native.Mathlib.Nat.{div-one}
use native.Mathlib.Decide.{dec_lt}
use native.Mathlib.Omega.{arith}
use borrow.Author.Tests.{eqb-true}
use lib.Dec.{eqb}
use Rattle.base.proofs.Bools.{both}
use Rattle.tree.specs.Fork.{bit, side}
use Rattle.tree.specs.Order.{order_of}
use Rattle.tree.specs.Wanted.{backward}
use Rattle.tree.proofs.Beside.{parity}
use Rattle.tree.proofs.Bit.{shr-half, bit-ext, bit-zero}
use Rattle.tree.proofs.Backward.{backward-same}
use Rattle.orders.specs.Same.{alike}
use Rattle.orders.specs.Allowed.{set_count, set_giving, forks_of}
use Rattle.orders.specs.Bits.{only_forks}
use Rattle.orders.proofs.Allowed.{set_count-twice}
use Rattle.orders.proofs.Bits.{only-forks, forks-only, only_forks-iff}
use Rattle.orders.proofs.Same.{alike_same, same_alike}
use Rattle.filled.specs.Lists.{list_of}
use Rattle.filled.specs.Forks.{filled_below, may_stand, spares_empty, is_meant, set_meant, list_forks, above, FilledOn, ForksMeant, ForksOfList}
use Rattle.filled.specs.Moves.{moves_forks}
use Rattle.filled.proofs.Bools.{either, or_right}
use Rattle.filled.proofs.Arranged.{All, all_map, Arranged, arranged-all}
use Rattle.filled.proofs.Crossings.{crosses, last_turns, turns, crossed, gives, Spares, part-crosses}
use Rattle.filled.proofs.Levels.{Level, level-root, level-side, level-one, level-fork, level-above, level-stop, level-has, filled-stop, stop-filled}
use Rattle.filled.proofs.Moves.{moves-bit, moves-only}
use Rattle.filled.proofs.Sets.{part, list-part, list-arranged, length-list_of, list_of-full}

module _ (k : ℕ) (s : ℕ → Bool) where
  -- ---- the set that is read off a list

  module _ (l : List ℕ) (a : Arranged k s k 1 l) where
    -- its stops are below n
    list_inside : All (λ j. j < 2 ^ k) l
    list_inside = all_map (λ j r. level-stop k k 1 j (level-root k) r.0) l (arranged-all k s k 1 l (level-root k) a)

    -- a bit of the set
    list-bit : (m v : ℕ) → Level k (suc m) v → bit (moves_forks k l) v ≡ crossed k m v l
    list-bit m v h = moves-bit k m v h l list_inside

    -- it has forks only
    pub list-only : only_forks k (moves_forks k l) ≡ true
    list-only = (only_forks-iff k (moves_forks k l)).1 (moves-only k l list_inside)

    -- A LIST OF THE TREE IS GIVEN BY A SET
    pub list-given : backward (list_of k s (moves_forks k l)) ≡ l
    list-given = list-part k s (moves_forks k l) ∙ gives k s (moves_forks k l) k 1 l (level-root k) a
        (λ n d y e q. list-bit n y (record { depth = d; sum = e; under = q }))

    -- a move from the second side of a fork to the first: both sides have a filled stop
    cross-filled : (m v : ℕ) → Level k (suc m) v → (r : List ℕ) → All (λ j. (above k k j ≡ 1) × (s j ≡ true)) r → crosses k m v r ≡ true
        → (filled_below k s m (side v 0) ≡ true) × (filled_below k s m (side v 1) ≡ true)
    unfolding crosses last_turns turns
    cross-filled m v h [] p e = absurd (false≢true e)
    cross-filled m v h (b ∷ []) p e = absurd (false≢true e)
    cross-filled m v h (b ∷ i ∷ r) p e = ⊎_elim
        (λ z. let q = both (eqb (above k m b) (side v 0)) (eqb (above k m i) (side v 1)) z in (
          stop-filled k s m (side v 0) b (level-side k m v 0 (omega arith) h) (eqb-true _ _ q.0) p.0.1,
          stop-filled k s m (side v 1) i (level-side k m v 1 (omega arith) h) (eqb-true _ _ q.1) p.1.0.1,
        ))
        (cross-filled m v h (i ∷ r) p.1)
        (either (turns k m v i b) (crosses k m v (i ∷ r)) e)

    -- so it spares the others
    pub list-spares : Spares k s (moves_forks k l)
    list-spares m v h e = cross-filled m v h l (arranged-all k s k 1 l (level-root k) a) (go (crosses k m v l) (sym (list-bit m v h) ∙ e))
      where
        go : (b : Bool) → cond {A = ℕ} b 1 0 ≡ 1 → b ≡ true
        go true e = refl
        go false e = absurd (omega arith)

  -- ---- the test of the forks with an empty side

  module _ (F : ℕ) where
    -- the test holds of every fork that it looks at
    spares-each : (m v : ℕ) → spares_empty k s F m v ≡ true → (n d y : ℕ) → m ≡ suc n + d → y / 2 ^ d ≡ v → may_stand k s F n y ≡ true
    unfolding spares_empty
    spares-each zero v e n d y f q = absurd (omega arith)
    spares-each (suc m) v e n zero y f q =
        let w : n ≡ m = omega arith in
        let u : y ≡ v = sym (div-one y) ∙ q in
        rw (w, u) (both (may_stand k s F m v) (spares_empty k s F m (side v 0) && spares_empty k s F m (side v 1)) e).0
    spares-each (suc m) v e n (suc d) y f q = below-it (parity (y / 2 ^ d)) (λ b x. spares-each m (side v b) x n d y (omega arith))
      where
        sides : (spares_empty k s F m (side v 0) ≡ true) × (spares_empty k s F m (side v 1) ≡ true)
        sides = both (spares_empty k s F m (side v 0)) (spares_empty k s F m (side v 1)) (both (may_stand k s F m v) (spares_empty k s F m (side v 0) && spares_empty k s F m (side v 1)) e).1

        half : y / 2 ^ d / 2 ≡ v
        half = shr-half y d ∙ q

        below-it : (y / 2 ^ d % 2 ≡ 0) ⊎ (y / 2 ^ d % 2 ≡ 1) → ((b : ℕ) → spares_empty k s F m (side v b) ≡ true → y / 2 ^ d ≡ side v b → may_stand k s F n y ≡ true) → may_stand k s F n y ≡ true
        below-it (inl z) ih = ih 0 sides.0 (omega (arith, half))
        below-it (inr z) ih = ih 1 sides.1 (omega (arith, half))

    -- what it says
    pub spares-is : spares_empty k s F k 1 ≡ true → Spares k s F
    spares-is e m v h f = go (either (eqb (bit F v) 0) (filled_below k s m (side v 0) && filled_below k s m (side v 1)) (spares-each k 1 e m h.depth v h.sum h.under))
      where
        go : (eqb (bit F v) 0 ≡ true) ⊎ ((filled_below k s m (side v 0) && filled_below k s m (side v 1)) ≡ true) → (filled_below k s m (side v 0) ≡ true) × (filled_below k s m (side v 1) ≡ true)
        go (inl z) = absurd (omega (arith, eqb-true (bit F v) 0 z))
        go (inr z) = both (filled_below k s m (side v 0)) (filled_below k s m (side v 1)) z

    -- and back
    is-spares : Spares k s F → (m v : ℕ) → Level k m v → spares_empty k s F m v ≡ true
    unfolding spares_empty
    is-spares f zero v h = refl
    is-spares f (suc m) v h =
        rw (stands (parity (F / 2 ^ v)), is-spares f m (side v 0) (level-side k m v 0 (omega arith) h), is-spares f m (side v 1) (level-side k m v 1 (omega arith) h))
      where
        stands : (bit F v ≡ 0) ⊎ (bit F v ≡ 1) → may_stand k s F m v ≡ true
        stands (inl z) = rw z
        stands (inr z) = let r = f m v h z in rw (r.0, r.1) (or_right (eqb (bit F v) 0) true refl)

  -- ---- there is one such set

  -- a set of forks that gives the list and spares the forks with an empty side
  record Fits (list : List ℕ) (F : ℕ) : Type 0 where
    pub even : F % 2 ≡ 0
    pub small : F < 2 ^ 2 ^ k
    pub given : list_of k s F ≡ list
    pub spares : Spares k s F

  -- its bits are those that the list's moves say
  fits-bit : (list : List ℕ) (F : ℕ) → Fits list F → (m v : ℕ) → Level k (suc m) v → bit F v ≡ crossed k m v (backward list)
  fits-bit list F f m v h =
      let e : part k s F (suc m + h.depth) 1 ≡ backward list = ap (λ x. part k s F x 1) (sym h.sum) ∙ sym (list-part k s F) ∙ ap backward f.given in
      let r : Level k (suc m + h.depth) 1 = record { depth = 0; sum = omega (arith, h.sum); under = div-one 1 } in
      sym (part-crosses k s F f.spares h.depth m v 1 r h.under) ∙ ap (crossed k m v) e

  -- so two such sets are one
  fits_one : (list : List ℕ) (F G : ℕ) → Fits list F → Fits list G → F ≡ G
  fits_one list F G f g = bit-ext (2 ^ k) F G f.small g.small each
    where
      each : (v : ℕ) → v < 2 ^ k → bit F v ≡ bit G v
      each zero c = omega (arith, bit-zero F, bit-zero G, f.even, g.even)
      each (suc v) c = let r = level-fork k (suc v) (omega arith) c in
          fits-bit list F f r.0 (suc v) r.1 ∙ sym (fits-bit list G g r.0 (suc v) r.1)

  -- the one that is read off the moves
  read_fits : (F : ℕ) → Fits (list_of k s F) (moves_forks k (backward (list_of k s F)))
  read_fits F =
      let l : List ℕ = backward (list_of k s F) in
      let a : Arranged k s k 1 l = list-arranged k s F in
      let o = only-forks k (moves_forks k l) (list-only l a) in
      let G : ℕ = moves_forks k l in
      record {
        even = o.0;
        small = o.1;
        given = backward-same (list_of k s G) (list_of k s F) (length-list_of k s G ∙ sym (length-list_of k s F)) (list-given l a);
        spares = list-spares l a;
      }

  -- ---- the enumeration finds it

  -- what the test of the enumeration says
  meant-fits : (list : List ℕ) (F : ℕ) → F % 2 ≡ 0 → F < 2 ^ 2 ^ k → is_meant k s list F ≡ true → Fits list F
  meant-fits list F e b h =
      let r = both (alike (list_of k s F) list) (spares_empty k s F k 1) h in
      record { even = e; small = b; given = alike_same (list_of k s F) list r.0; spares = spares-is F r.1 }

  fits-meant : (list : List ℕ) (F : ℕ) → Fits list F → is_meant k s list F ≡ true
  fits-meant list F f = rw (same_alike (list_of k s F) list f.given, is-spares F f.spares k 1 (level-root k))

  -- it finds one where there is one
  finds : (list : List ℕ) (m j : ℕ) → j < m → is_meant k s list (2 * j) ≡ true
      → (is_meant k s list (set_meant k s list m) ≡ true) × (set_meant k s list m % 2 ≡ 0) × (set_meant k s list m < 2 * m)
  unfolding set_meant
  finds list zero j b e = absurd (omega arith)
  finds list (suc m) j b e = go (is_meant k s list (2 * m)) refl (dec_lt j m) (λ c. finds list m j c e)
    where
      go : (x : Bool) → is_meant k s list (2 * m) ≡ x → Dec (j < m)
          → (j < m → (is_meant k s list (set_meant k s list m) ≡ true) × (set_meant k s list m % 2 ≡ 0) × (set_meant k s list m < 2 * m))
          → (is_meant k s list (cond x (2 * m) (set_meant k s list m)) ≡ true) × (cond x (2 * m) (set_meant k s list m) % 2 ≡ 0) × (cond x (2 * m) (set_meant k s list m) < 2 * suc m)
      go true q d ih = (q, omega arith, omega arith)
      go false q (yes c) ih = let r = ih c in (r.0, r.1, omega (arith, r.2))
      go false q (no c) ih = let i : j ≡ m = omega arith in absurd (true≢false (sym (rw i at e) ∙ q))

  -- THE FORKS OF A LIST ARE READ OFF ITS MOVES
  pub list_forks-read : (F : ℕ) → list_forks k s (list_of k s F) ≡ moves_forks k (backward (list_of k s F))
  unfolding list_forks
  list_forks-read F =
      let list : List ℕ = list_of k s F in
      let G : ℕ = moves_forks k (backward list) in
      let g : Fits list G = read_fits F in
      let e : 2 * (G / 2) ≡ G = omega (arith, g.even) in
      let r = finds list (set_count k) (G / 2) (omega (arith, g.small, set_count-twice k)) (rw e (fits-meant list G g)) in
      fits_one list (set_meant k s list (set_count k)) G (meant-fits list (set_meant k s list (set_count k)) r.1 (omega (arith, r.2, set_count-twice k)) r.0) g

  -- ---- what is asked of the forks of a list, in words

  -- a fork's side with a filled stop
  filled_on : (m v b : ℕ) → b < 2 → Level k (suc m) v → filled_below k s m (side v b) ≡ true → FilledOn k s v b
  filled_on m v b c h e =
      let l : Level k m (side v b) = level-side k m v b c h in
      let r = filled-stop k s m (side v b) l e in
      record { stop = r.0; inside = level-stop k m (side v b) r.0 l r.1; filled = r.2; m = m; low = omega (arith, h.sum); under = r.1 }

  on-filled : (m v b : ℕ) → b < 2 → Level k (suc m) v → FilledOn k s v b → filled_below k s m (side v b) ≡ true
  on-filled m v b c h f =
      let l : Level k m (side v b) = level-side k m v b c h in
      let g : Level k f.m (side v b) = rw f.under at (level-above k f.m f.stop (omega (arith, f.low)) f.inside) in
      let e : f.m ≡ m = level-one k f.m m (side v b) g l in
      stop-filled k s m (side v b) f.stop l (rw e at f.under) f.filled

  fits-words : (list : List ℕ) (F : ℕ) → Fits list F → ForksMeant k s list F
  fits-words list F f = record { forks = forks-only k F f.even f.small; gives = f.given; both = each }
    where
      each : (v : ℕ) → bit F v ≡ 1 → FilledOn k s v 0 × FilledOn k s v 1
      each v e =
          let o = (only_forks-iff k F).0 (forks-only k F f.even f.small) v e in
          let r = level-fork k v o.0 o.1 in
          let b = f.spares r.0 v r.1 e in
          (filled_on r.0 v 0 (omega arith) r.1 b.0, filled_on r.0 v 1 (omega arith) r.1 b.1)

  words-fits : (list : List ℕ) (F : ℕ) → ForksMeant k s list F → Fits list F
  words-fits list F f = let o = only-forks k F f.forks in record {
    even = o.0;
    small = o.1;
    given = f.gives;
    spares = λ m v h e. let b = f.both v e in (on-filled m v 0 (omega arith) h b.0, on-filled m v 1 (omega arith) h b.1);
  }

  -- THE FORKS OF A LIST ARE WHAT IS ASKED FOR, AND NOTHING ELSE IS
  pub list_forks-meant : (F : ℕ) → ForksOfList k s (list_of k s F) (list_forks k s (list_of k s F))
  list_forks-meant F = rw (list_forks-read F) (record {
    meant = fits-words (list_of k s F) _ (read_fits F);
    only = λ G g. fits_one (list_of k s F) G _ (words-fits (list_of k s F) G g) (read_fits F);
  })

  -- ---- with no empty stop

  module _ (full : (i : ℕ) → i < 2 ^ k → s i ≡ true) where
    -- every side has a filled stop
    full-side : (m v : ℕ) → Level k m v → filled_below k s m v ≡ true
    full-side m v h =
        let i : ℕ = v * 2 ^ m - 2 ^ k in
        let e : above k m i ≡ v = level-has k m v h in
        stop-filled k s m v i h e (full i (level-stop k m v i h e))

    full-spares : (F : ℕ) → spares_empty k s F k 1 ≡ true
    full-spares F = is-spares F (λ m v h e. (full-side m (side v 0) (level-side k m v 0 (omega arith) h), full-side m (side v 1) (level-side k m v 1 (omega arith) h))) k 1 (level-root k)

    -- THE FORKS OF AN ORDER
    pub list_forks-full : (o : List ℕ) → list_forks k s o ≡ forks_of k o
    unfolding list_forks forks_of set_meant set_giving
    list_forks-full o = go (set_count k)
      where
        test : (F : ℕ) → is_meant k s o F ≡ alike (order_of k F) o
        test F = rw (full-spares F, list_of-full k s full F) (go (alike (order_of k F) o))
          where
            go : (b : Bool) → (b && true) ≡ b
            go true = refl
            go false = refl

        go : (m : ℕ) → set_meant k s o m ≡ set_giving k o m
        go zero = refl
        go (suc m) = rw (test (2 * m), go m)
