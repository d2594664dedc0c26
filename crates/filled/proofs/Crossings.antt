-- THE FORKS OF A LIST, READ OFF ITS MOVES. A move of a list leads from one side of a fork to the other at most once for each fork: the list of a
-- fork is that of one side and then that of the other. So the forks that are exchanged, and have a filled stop on each side, are those
-- which a move of the list crosses from the second side to the first. Such a set gives the list (`gives`), and there is no other that
-- spares the forks with an empty side (`part-crosses`).
use mathlib.Core.Path.{◌≡◌, refl, sym, ap, ap₂, subst, ◌∙◌}
use mathlib.Core.Bool.{Bool, true, false, cond, ◌&&◌, ◌||◌, true≢false}
use mathlib.Core.List.{List, [], ◌∷◌, ◌++◌, append-nil}
use mathlib.Core.Logic.{◌≢◌, ◌⊎◌, inl, inr}
use Prim.Native.Nat.{ℕ, zero, suc, ◌+◌, ◌-◌, ◌/◌, ◌%◌, ◌^◌, ◌<◌}
use native.Mathlib.Nat.{div-one}
use native.Mathlib.Decide.{ℕ_discrete}
use native.Mathlib.Omega.{arith}
use borrow.Author.Tests.{eq-eqb, ne_eqb}
use lib.Dec.{eqb}
use Rattle.tree.specs.Fork.{bit, side}
use Rattle.tree.proofs.Beside.{parity}
use Rattle.tree.proofs.Bit.{shr-half}
use Rattle.filled.specs.Forks.{filled_below, above}
use Rattle.filled.proofs.Arranged.{All, all_map, Arranged, arranged-all, arranged-nil}
use Rattle.filled.proofs.Levels.{Level, level-side, above_half, above-shr}
use Rattle.filled.proofs.Sets.{part, part-zero, part-suc, part-arranged}

module _ (k : ℕ) where
  -- the move from a to b leads from the second side of fork v to its first; the sides' stops are m depths below
  unfoldable pub turns : ℕ → ℕ → ℕ → ℕ → Bool
  turns m v a b = eqb (above k m b) (side v 0) && eqb (above k m a) (side v 1)

  -- the last move of a list that is read from its end
  unfoldable pub last_turns : ℕ → ℕ → ℕ → List ℕ → Bool
  last_turns m v b [] = false
  last_turns m v b (a ∷ l) = turns m v a b

  -- one of its moves
  unfoldable pub crosses : ℕ → ℕ → List ℕ → Bool
  crosses m v [] = false
  crosses m v (b ∷ l) = last_turns m v b l || crosses m v l

  -- the fork's state by that
  abbrev pub crossed : ℕ → ℕ → List ℕ → ℕ
  crossed m v l = cond (crosses m v l) 1 0

  -- a move to a stop that is not on the first side does not lead there
  last_turns-to : (m v b : ℕ) (l : List ℕ) → above k m b ≢ side v 0 → last_turns m v b l ≡ false
  unfolding last_turns turns
  last_turns-to m v b [] h = refl
  last_turns-to m v b (a ∷ l) h = rw (ne_eqb (above k m b) (side v 0) h)

  -- nor does one from a stop that is not on the second
  turns-from : (m v a b : ℕ) → above k m a ≢ side v 1 → turns m v a b ≡ false
  unfolding turns
  turns-from m v a b h = rw (ne_eqb (above k m a) (side v 1) h) (go (eqb (above k m b) (side v 0)))
    where
      go : (c : Bool) → (c && false) ≡ false
      go true = refl
      go false = refl

  -- stops that are not on the first side, before others
  pub cross-after : (m v : ℕ) (x y : List ℕ) → All (λ j. above k m j ≢ side v 0) x → crosses m v (x ++ y) ≡ crosses m v y
  unfolding crosses
  cross-after m v [] y p = refl
  cross-after m v (b ∷ x) y p = rw (last_turns-to m v b (x ++ y) p.0) (cross-after m v x y p.1)

  -- stops that are not on the second side, after others
  pub cross-before : (m v : ℕ) (x y : List ℕ) → All (λ j. above k m j ≢ side v 1) y → crosses m v (x ++ y) ≡ crosses m v x
  unfolding crosses last_turns
  cross-before m v [] [] p = refl
  cross-before m v [] (b ∷ []) p = refl
  cross-before m v [] (b ∷ a ∷ y) p = rw (turns-from m v a b p.1.0) (cross-before m v [] (a ∷ y) p.1)
  cross-before m v (b ∷ []) [] p = refl
  cross-before m v (b ∷ []) (a ∷ y) p = rw (turns-from m v a b p.0) (cross-before m v [] (a ∷ y) p)
  cross-before m v (b ∷ a ∷ x) y p = ap (λ z. turns m v a b || z) (cross-before m v (a ∷ x) y p)

  -- stops of the first side, and then of the second
  pub cross-here : (m v b a : ℕ) (x y : List ℕ) → All (λ j. above k m j ≡ side v 0) (b ∷ x) → above k m a ≡ side v 1
      → crosses m v ((b ∷ x) ++ (a ∷ y)) ≡ true
  unfolding crosses last_turns turns
  cross-here m v b a [] y p q = rw (eq-eqb (above k m b) (side v 0) p.0, eq-eqb (above k m a) (side v 1) q)
  cross-here m v b a (c ∷ x) y p q = rw (cross-here m v c a x y p.1 q) (go (turns m v c b))
    where
      go : (z : Bool) → (z || true) ≡ true
      go true = refl
      go false = refl

  -- stops of one side alone
  pub cross-side : (m v b : ℕ) → b < 2 → (x : List ℕ) → All (λ j. above k m j ≡ side v b) x → crosses m v x ≡ false
  unfolding crosses
  cross-side m v zero h x p = cross-before m v [] x (all_map (λ j e. λ f. absurd (omega (arith, e, f))) x p)
  cross-side m v (suc b) h x p = sym (ap (crosses m v) (append-nil x)) ∙ cross-after m v x [] (all_map (λ j e. λ f. absurd (omega (arith, e, f))) x p)

  -- a stop below another fork w is on no side of a fork y that is d depths below u
  pub other-side : (n d y u w c j : ℕ) → y / 2 ^ d ≡ u → w ≢ u → c < 2 → above k (suc n + d) j ≡ w → above k n j ≢ side y c
  other-side n d y u w c j q h b e f =
      let g : above k (suc n) j ≡ y = sym (above_half k n j) ∙ omega (arith, f) in
      h (sym e ∙ sym (above-shr k (suc n) d j) ∙ ap (λ x. x / 2 ^ d) g ∙ q)

-- a bit is 0 or 1
bit-cases : (x b : ℕ) → (bit x b ≡ 0) ⊎ (bit x b ≡ 1)
bit-cases x b = parity (x / 2 ^ b)

-- ---- sets and lists

module _ (k : ℕ) (s : ℕ → Bool) (F : ℕ) where
  -- of a fork in state c
  part-state : (m v c : ℕ) → bit F v ≡ c → part k s F (suc m) v ≡ part k s F m (side v (1 - c)) ++ part k s F m (side v c)
  part-state m v c e = part-suc k s F m v ∙ rw e

  -- the forks at v and below, m depths above the stops, are in the state that the moves of the list l say
  abbrev pub Reads : ℕ → ℕ → List ℕ → Type 0
  Reads m v l = (n d y : ℕ) → m ≡ suc n + d → y / 2 ^ d ≡ v → bit F y ≡ crossed k n y l

  -- so are those of a side in its part of the list
  reads-side : (m v b : ℕ) → b < 2 → (l r : List ℕ) → ((n d y : ℕ) → m ≡ suc n + d → y / 2 ^ d ≡ side v b → crosses k n y l ≡ crosses k n y r)
      → Reads (suc m) v l → Reads m (side v b) r
  reads-side m v b c l r h f n d y e q = f n (suc d) y (omega arith) (sym (shr-half y d) ∙ omega (arith, q)) ∙ ap (λ (z : Bool). cond z 1 0) (h n d y e q)

  -- a list x ++ y of a fork, in whose states the forks are, is the one that the set gives, if it gives x and y
  module _ (m v : ℕ) (x y : List ℕ) (top : bit F v ≡ crossed k m v (x ++ y)) where
    -- no move turns the fork
    straight : crosses k m v (x ++ y) ≡ false → part k s F (suc m) v ≡ part k s F m (side v 1) ++ part k s F m (side v 0)
    straight e = part-state m v 0 (rw e at top)

    -- x is on the second side
    second-first : All (λ j. above k m j ≡ side v 1) x → All (λ j. above k m j ≡ side v 0) y → part k s F m (side v 1) ≡ x → part k s F m (side v 0) ≡ y
        → part k s F (suc m) v ≡ x ++ y
    second-first p q a b =
        straight (cross-after k m v x y (all_map (λ j e. λ f. absurd (omega (arith, e, f))) x p) ∙ cross-side k m v 0 (omega arith) y q) ∙ ap₂ ◌++◌ a b

  -- x is on the first side: the fork is exchanged, unless x or y is empty
  first-first : (m v : ℕ) (x y : List ℕ) → bit F v ≡ crossed k m v (x ++ y) → All (λ j. above k m j ≡ side v 0) x → All (λ j. above k m j ≡ side v 1) y
      → part k s F m (side v 0) ≡ x → part k s F m (side v 1) ≡ y → part k s F (suc m) v ≡ x ++ y
  first-first m v [] y top p q a b = straight m v [] y top (cross-side k m v 1 (omega arith) y q) ∙ ap₂ ◌++◌ b a ∙ append-nil y
  first-first m v (i ∷ x) [] top p q a b =
      let e : i ∷ x ++ [] ≡ i ∷ x = append-nil (i ∷ x) in
      straight m v (i ∷ x) [] top (rw e (cross-side k m v 0 (omega arith) (i ∷ x) p)) ∙ ap₂ ◌++◌ b a ∙ sym e
  first-first m v (i ∷ x) (j ∷ y) top p q a b = part-state m v 1 (rw (cross-here k m v i j x y p q.0) at top) ∙ ap₂ ◌++◌ a b

  -- A LIST IS GIVEN by every set whose forks are in the state that its moves say
  pub gives : (m v : ℕ) (l : List ℕ) → Level k m v → Arranged k s m v l → Reads m v l → part k s F m v ≡ l
  gives zero v l h e f = part-zero k s F v ∙ sym e
  gives (suc m) v l h (b, x, y, c, p, q, e) f =
      let g : Reads (suc m) v (x ++ y) = subst (Reads (suc m) v) e f in
      let px : All (λ j. above k m j ≡ side v b) x = inside b c x p in
      let qy : All (λ j. above k m j ≡ side v (1 - b)) y = inside (1 - b) (omega arith) y q in
      joined b c (g m 0 v (omega arith) (div-one v)) px qy
      (gives m (side v b) x (level-side k m v b c h) p
      (reads-side m v b c (x ++ y) x (λ n d w u r. cross-before k n w x y (all_map (λ j i. other-side k n d w (side v b) (side v (1 - b)) 1 j r (λ z. absurd (omega arith)) (omega arith) (rw u at i)) y qy)) g))
      (gives m (side v (1 - b)) y (level-side k m v (1 - b) (omega arith) h) q
      (reads-side m v (1 - b) (omega arith) (x ++ y) y (λ n d w u r. cross-after k n w x y (all_map (λ j i. other-side k n d w (side v (1 - b)) (side v b) 0 j r (λ z. absurd (omega arith)) (omega arith) (rw u at i)) x px)) g))
      ∙ sym e
    where
      inside : (b : ℕ) → b < 2 → (x : List ℕ) → Arranged k s m (side v b) x → All (λ j. above k m j ≡ side v b) x
      inside b c x p = all_map (λ j r. r.0) x (arranged-all k s m (side v b) x (level-side k m v b c h) p)

      joined : (b : ℕ) → b < 2 → bit F v ≡ crossed k m v (x ++ y) → All (λ j. above k m j ≡ side v b) x → All (λ j. above k m j ≡ side v (1 - b)) y
          → part k s F m (side v b) ≡ x → part k s F m (side v (1 - b)) ≡ y → part k s F (suc m) v ≡ x ++ y
      joined zero c top p q i j = first-first m v x y top p q i j
      joined (suc zero) c top p q i j = second-first m v x y top p q i j
      joined (suc (suc b)) c top p q i j = absurd (omega arith)

  -- the set exchanges only forks with a filled stop on each side
  abbrev pub Spares : Type 0
  Spares = (m v : ℕ) → Level k (suc m) v → bit F v ≡ 1 → (filled_below k s m (side v 0) ≡ true) × (filled_below k s m (side v 1) ≡ true)

  -- the fork itself, by the lists of its sides
  own-cross : (m v : ℕ) → Level k (suc m) v → Spares → crossed k m v (part k s F (suc m) v) ≡ bit F v
  own-cross m v h f = go (bit-cases F v)
    where
      inside : (b : ℕ) → b < 2 → All (λ j. above k m j ≡ side v b) (part k s F m (side v b))
      inside b c = all_map (λ j r. r.0) (part k s F m (side v b)) (arranged-all k s m (side v b) (part k s F m (side v b)) (level-side k m v b c h) (part-arranged k s F m (side v b)))

      full : (x y : List ℕ) → part k s F m (side v 0) ≡ x → part k s F m (side v 1) ≡ y → (filled_below k s m (side v 0) ≡ true) × (filled_below k s m (side v 1) ≡ true)
          → All (λ j. above k m j ≡ side v 0) x → All (λ j. above k m j ≡ side v 1) y → crosses k m v (x ++ y) ≡ true
      full [] y a b r p q = absurd (true≢false (sym r.0 ∙ arranged-nil k s m (side v 0) (rw a at (part-arranged k s F m (side v 0)))))
      full (i ∷ x) [] a b r p q = absurd (true≢false (sym r.1 ∙ arranged-nil k s m (side v 1) (rw b at (part-arranged k s F m (side v 1)))))
      full (i ∷ x) (j ∷ y) a b r p q = cross-here k m v i j x y p q.0

      go : (bit F v ≡ 0) ⊎ (bit F v ≡ 1) → crossed k m v (part k s F (suc m) v) ≡ bit F v
      go (inl z) =
          let x : List ℕ = part k s F m (side v 1) in
          let y : List ℕ = part k s F m (side v 0) in
          let e : crosses k m v (x ++ y) ≡ false = cross-after k m v x y (all_map (λ j e. λ f. absurd (omega (arith, e, f))) x (inside 1 (omega arith))) ∙ cross-side k m v 0 (omega arith) y (inside 0 (omega arith)) in
          ap (crossed k m v) (part-state m v 0 z) ∙ rw e (sym z)
      go (inr z) =
          let e : crosses k m v (part k s F m (side v 0) ++ part k s F m (side v 1)) ≡ true = full _ _ refl refl (f m v h z) (inside 0 (omega arith)) (inside 1 (omega arith)) in
          ap (crossed k m v) (part-state m v 1 z) ∙ rw e (sym z)

  -- of a fork below side b the stops of the other side say nothing
  side-crosses : (d n y u b : ℕ) → Level k (suc (suc n + d)) u → b < 2 → y / 2 ^ d ≡ side u b
      → crossed k n y (part k s F (suc (suc n + d)) u) ≡ crossed k n y (part k s F (suc n + d) (side u b))
  side-crosses d n y u b h i e = go (ℕ_discrete (bit F u) b)
    where
      -- the stops of the other side are on no side of the fork
      away : (c w : ℕ) → c < 2 → w < 2 → side u c ≢ side u b → All (λ j. above k n j ≢ side y w) (part k s F (suc n + d) (side u c))
      away c w g o z = all_map (λ j r. other-side k n d y (side u b) (side u c) w j e z o r.0) (part k s F (suc n + d) (side u c))
          (arranged-all k s (suc n + d) (side u c) (part k s F (suc n + d) (side u c)) (level-side k (suc n + d) u c g h) (part-arranged k s F (suc n + d) (side u c)))

      x : List ℕ
      x = part k s F (suc n + d) (side u b)

      o : List ℕ
      o = part k s F (suc n + d) (side u (1 - b))

      go : Dec (bit F u ≡ b) → crossed k n y (part k s F (suc (suc n + d)) u) ≡ crossed k n y x
      go (yes z) = rw (part-state (suc n + d) u b z) (ap (λ (g : Bool). cond g 1 0) (cross-after k n y o x (away (1 - b) 0 (omega arith) (omega arith) (λ g. absurd (omega arith)))))
      go (no z) =
          let c : bit F u ≡ 1 - b = omega (arith, z) in
          let r : 1 - (1 - b) ≡ b = omega arith in
          rw (part-state (suc n + d) u (1 - b) c, r) (ap (λ (g : Bool). cond g 1 0) (cross-before k n y x o (away (1 - b) 1 (omega arith) (omega arith) (λ g. absurd (omega arith)))))

  -- A SET THAT SPARES THE FORKS WITH AN EMPTY SIDE is in the states that the moves of its list say
  pub part-crosses : Spares → (d n y u : ℕ) → Level k (suc n + d) u → y / 2 ^ d ≡ u → crossed k n y (part k s F (suc n + d) u) ≡ bit F y
  part-crosses f zero n y u h q =
      let a : suc n + 0 ≡ suc n = omega arith in
      let b : u ≡ y = sym q ∙ div-one y in
      rw (a, b) (own-cross n y (rw (a, b) at h) f)
  part-crosses f (suc d) n y u h q =
      let a : suc n + suc d ≡ suc (suc n + d) = omega arith in
      let h' : Level k (suc (suc n + d)) u = rw a at h in
      let b : ℕ = y / 2 ^ d % 2 in
      let e : y / 2 ^ d ≡ side u b = omega (arith, shr-half y d, q) in
      rw (a, side-crosses d n y u b h' (omega arith) e) (part-crosses f d n y (side u b) (level-side k (suc n + d) u b (omega arith) h') e)
