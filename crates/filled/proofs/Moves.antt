-- The forks that a program reads off a list's moves are those that the moves cross from the second side to the first.
use mathlib.Core.Path.{◌≡◌, refl, sym, ap, ap₂, ◌∙◌}
use mathlib.Core.Bool.{Bool, true, false, cond, ◌||◌, false≢true}
use mathlib.Core.List.{List, [], ◌∷◌}
use mathlib.Core.Logic.{◌≢◌}
use Prim.Native.Nat.{ℕ, zero, suc, max, ◌+◌, ◌*◌, ◌-◌, ◌/◌, ◌%◌, ◌^◌, ◌≤◌, ◌<◌}
use native.Mathlib.Nat.{div-one, one-mul, pow-succ'}
use native.Mathlib.Decide.{dec_lt, ℕ_discrete}
use native.Mathlib.Numerals.{add-one}
use native.Mathlib.Omega.{arith}
use borrow.Author.Tests.{eq-eqb, eqb-true, lt-ltb, le-ltb}
use lib.Bits.{bit_or, bit_xor, xor_lt, or_zero_l, or_zero_r}
use lib.Count.{count_leading_zeros, leading_le, leading_top}
use lib.Dec.{eqb, ltb}
use lib.ListN.{length, drop}
use lib.Pow.{pow_pos, pow_mono, shr_mono, shl_exact}
use Rattle.base.proofs.Bools.{both}
use Rattle.tree.specs.Fork.{bit, side}
use Rattle.tree.specs.Neighbour.{in_place}
use Rattle.tree.proofs.Beside.{Beside}
use Rattle.tree.proofs.Block.{block_of}
use Rattle.tree.proofs.Xor.{same-of-xor-lt, beside-xor}
use Rattle.walks.specs.Places.{stops_to}
use Rattle.walks.proofs.Prefer.{Trich, trich, below, equal, above as over}
use Rattle.orders.proofs.Bits.{bit-none, bit-or, bit-pow, bit-pow-other, bit-lt}
use Rattle.filled.specs.Forks.{above}
use Rattle.filled.specs.Moves.{width, move_forks, last_forks, moves_forks}
use Rattle.filled.proofs.Arranged.{All}
use Rattle.filled.proofs.Crossings.{turns, last_turns, crosses, crossed}
use Rattle.filled.proofs.Levels.{Level, level-one, level-above, above_half, above_same, same_above}

-- the highest bit in which two different numbers differ
pub record Differ (k a b : ℕ) : Type 0 where
  pub top : ℕ
  pub below : top < k
  pub wide : width k (bit_xor a b) ≡ suc top
  pub beside : Beside top a b

pub differ : (k a b : ℕ) → a < 2 ^ k → b < 2 ^ k → b < a → Differ k a b
differ k a b p q h =
    let x : ℕ = bit_xor a b in
    let pos : 0 < x = not_same (dec_lt 0 x) in
    let r = leading_top k x pos (xor_lt k a b p q) in
    let s : suc r.0 ≡ r.0 + 1 = sym (add-one r.0) in
    record {
      top = r.0;
      below = omega (arith, r.1);
      wide = omega (arith, r.1);
      beside = (beside-xor r.0 a b).1 (r.2, rw s at r.3);
    }
  where
    not_same : Dec (0 < bit_xor a b) → 0 < bit_xor a b
    not_same (yes l) = l
    not_same (no l) = absurd (omega (arith, same-of-xor-lt 0 a b (omega arith), div-one a, div-one b))

-- there is one such bit
beside-one : (t u a b : ℕ) → Beside t a b → Beside u a b → t ≡ u
beside-one t u a b h g = go (trich t u) ((beside-xor t a b).0 h) ((beside-xor u a b).0 g)
  where
    go : Trich t u → (2 ^ t ≤ bit_xor a b) × (bit_xor a b < 2 ^ (t + 1)) → (2 ^ u ≤ bit_xor a b) × (bit_xor a b < 2 ^ (u + 1)) → t ≡ u
    go (below l) p q = absurd (omega (arith, pow_mono {i = t + 1} {j = u} (omega arith), p.1, q.0))
    go (equal l) p q = l
    go (over l) p q = absurd (omega (arith, pow_mono {i = u + 1} {j = t} (omega arith), q.1, p.0))

module _ (k : ℕ) where
  module _ (m v a b : ℕ) (h : Level k (suc m) v) (p : a < 2 ^ k) (q : b < 2 ^ k) where
    -- the depth of the sides
    inside : suc m ≤ k
    inside = omega (arith, h.sum)

    -- what it is to lead from the second side to the first
    turns-is : turns k m v a b ≡ true → (above k m b ≡ side v 0) × (above k m a ≡ side v 1)
    unfolding turns
    turns-is e = let r = both (eqb (above k m b) (side v 0)) (eqb (above k m a) (side v 1)) e in (eqb-true _ _ r.0, eqb-true _ _ r.1)

    is-turns : above k m b ≡ side v 0 → above k m a ≡ side v 1 → turns k m v a b ≡ true
    unfolding turns
    is-turns x y = rw (eq-eqb _ _ x, eq-eqb _ _ y)

    -- then the second stop is the smaller
    turns-less : turns k m v a b ≡ true → b < a
    turns-less e = go (dec_lt b a)
      where
        go : Dec (b < a) → b < a
        go (yes l) = l
        go (no l) =
            let r = turns-is e in
            let x : above k m a ≤ above k m b = shr_mono m (omega arith) in
            absurd (omega (arith, r.0, r.1))

    -- and the fork is the lowest above both
    turns-lowest : (d : Differ k a b) → turns k m v a b ≡ true → above k (suc d.top) b ≡ v
    turns-lowest d e =
        let r = turns-is e in
        let x : above k (suc m) a ≡ above k (suc m) b = sym (above_half k m a) ∙ omega (arith, r.0, r.1) ∙ above_half k m b in
        let w : Beside m a b = record { same = same_above k (suc m) a b inside x; apart = λ z. absurd (omega (arith, above_same k m a b (omega (arith, inside)) z, r.0, r.1)) } in
        let t : d.top ≡ m = beside-one d.top m a b d.beside w in
        rw t (sym (above_half k m b) ∙ omega (arith, r.0))

    -- the lowest fork above both is crossed so by a move to the smaller
    lowest-turns : (d : Differ k a b) → b < a → above k (suc d.top) b ≡ v → turns k m v a b ≡ true
    lowest-turns d l e =
        let t : suc d.top ≡ suc m = level-one k (suc d.top) (suc m) v (rw e at (level-above k (suc d.top) b d.below q)) h in
        let u : d.top ≡ m = omega arith in
        let w : Beside m a b = rw u at d.beside in
        let x : above k m b / 2 ≡ v = above_half k m b ∙ ap (λ z. above k (suc z) b) (sym u) ∙ e in
        let y : above k m a / 2 ≡ v = above_half k m a ∙ above_same k (suc m) a b inside w.same ∙ sym (above_half k m b) ∙ x in
        let apart : above k m a ≢ above k m b = λ z. w.apart (same_above k m a b (omega (arith, inside)) z) in
        let up : above k m b ≤ above k m a = shr_mono m (omega arith) in
        is-turns (omega arith) (omega arith)

    -- WHAT A MOVE SAYS OF A FORK
    move-bit : bit (move_forks k a b) v ≡ cond (turns k m v a b) 1 0
    unfolding move_forks
    move-bit = go (dec_lt b a) (turns k m v a b) refl
      where
        at : (d : Differ k a b) → b < a → (c : Bool) → turns k m v a b ≡ c → Dec (v ≡ above k (suc d.top) b) → bit (2 ^ above k (suc d.top) b) v ≡ cond c 1 0
        at d l true e (yes f) = rw f (bit-pow (above k (suc d.top) b))
        at d l true e (no f) = absurd (f (sym (turns-lowest d e)))
        at d l false e (yes f) = absurd (false≢true (sym e ∙ lowest-turns d l (sym f)))
        at d l false e (no f) = bit-pow-other (above k (suc d.top) b) v f

        go : Dec (b < a) → (c : Bool) → turns k m v a b ≡ c → bit (cond (ltb b a) (2 ^ above k (width k (bit_xor a b)) b) 0) v ≡ cond c 1 0
        go (yes l) c e = let d = differ k a b p q l in
            rw (lt-ltb b a l, d.wide) (at d l c e (ℕ_discrete v (above k (suc d.top) b)))
        go (no l) true e = absurd (l (turns-less e))
        go (no l) false e = rw (le-ltb b a (omega arith)) (bit-none v)

  -- WHAT ALL MOVES OF A LIST SAY
  pub moves-bit : (m v : ℕ) → Level k (suc m) v → (l : List ℕ) → All (λ j. j < 2 ^ k) l → bit (moves_forks k l) v ≡ crossed k m v l
  unfolding moves_forks last_forks crosses last_turns
  moves-bit m v h [] p = bit-none v
  moves-bit m v h (b ∷ []) p = bit-or 0 0 v ∙ rw (bit-none v)
  moves-bit m v h (b ∷ a ∷ l) p =
      bit-or (moves_forks k (a ∷ l)) (move_forks k a b) v
      ∙ ap₂ max (moves-bit m v h (a ∷ l) p.1) (move-bit m v a b h p.1.0 p.0) ∙ go (turns k m v a b) (crosses k m v (a ∷ l))
    where
      go : (x y : Bool) → max (cond y 1 0) (cond x 1 0) ≡ cond (x || y) 1 0
      go true true = refl
      go true false = refl
      go false true = refl
      go false false = refl

  -- the lowest fork above two stops is a fork of the tree
  lowest-inside : (a b : ℕ) → b < 2 ^ k → (d : Differ k a b) → (1 ≤ above k (suc d.top) b) × (above k (suc d.top) b < 2 ^ k)
  lowest-inside a b q d =
      let v : ℕ = above k (suc d.top) b in
      let l : Level k (suc d.top) v = level-above k (suc d.top) b d.below q in
      let g : ℕ = l.depth in
      let o = block_of g v in
      let u : 2 ^ suc g ≤ 2 ^ k = pow_mono (omega (arith, l.sum)) in
      (omega (arith, rw l.under at o.0, one-mul (2 ^ g), pow_pos g), omega (arith, rw l.under at o.1, one-mul (2 ^ g), pow-succ' 2 g))

  -- a move says something of a fork of the tree only
  move-only : (a b v : ℕ) → a < 2 ^ k → b < 2 ^ k → bit (move_forks k a b) v ≡ 1 → (1 ≤ v) × (v < 2 ^ k)
  unfolding move_forks
  move-only a b v p q e = go (dec_lt b a)
    where
      at : (d : Differ k a b) → bit (2 ^ above k (suc d.top) b) v ≡ 1 → Dec (v ≡ above k (suc d.top) b) → (1 ≤ v) × (v < 2 ^ k)
      at d e (no f) = absurd (omega (arith, bit-pow-other (above k (suc d.top) b) v f))
      at d e (yes f) = rw f (lowest-inside a b q d)

      go : Dec (b < a) → (1 ≤ v) × (v < 2 ^ k)
      go (yes l) = let d = differ k a b p q l in at d (rw (lt-ltb b a l, d.wide) at e) (ℕ_discrete v (above k (suc d.top) b))
      go (no l) = absurd (omega (arith, rw (le-ltb b a (omega arith), bit-none v) at e))

  -- so do all moves
  pub moves-only : (l : List ℕ) → All (λ j. j < 2 ^ k) l → (v : ℕ) → bit (moves_forks k l) v ≡ 1 → (1 ≤ v) × (v < 2 ^ k)
  unfolding moves_forks last_forks
  moves-only [] p v e = absurd (omega (arith, bit-none v))
  moves-only (b ∷ []) p v e = absurd (omega (arith, bit-or 0 0 v, bit-none v))
  moves-only (b ∷ a ∷ l) p v e = go (ℕ_discrete (bit (moves_forks k (a ∷ l)) v) 1) (λ x. moves-only (a ∷ l) p.1 v x)
    where
      go : Dec (bit (moves_forks k (a ∷ l)) v ≡ 1) → (bit (moves_forks k (a ∷ l)) v ≡ 1 → (1 ≤ v) × (v < 2 ^ k)) → (1 ≤ v) × (v < 2 ^ k)
      go (yes x) ih = ih x
      go (no x) ih = move-only a b v p.1.0 p.0
          (omega (arith, bit-or (moves_forks k (a ∷ l)) (move_forks k a b) v, bit-lt (moves_forks k (a ∷ l)) v, bit-lt (move_forks k a b) v))

-- ---- as code has it

-- a move to a smaller stop: the number of leading zeros of 64 gives the fork, and the shift its set
pub record Shifted (k n a b : ℕ) : Type 0 where
  pub few : n ≤ 64
  pub zeros : count_leading_zeros 64 (bit_xor a b) ≤ 64
  pub shift : 64 - count_leading_zeros 64 (bit_xor a b) < 64
  pub fork : (n + b) / 2 ^ (64 - count_leading_zeros 64 (bit_xor a b)) < 64
  pub set : 1 * 2 ^ ((n + b) / 2 ^ (64 - count_leading_zeros 64 (bit_xor a b))) % 2 ^ 64 ≡ move_forks k a b

pub shifted : (k n a b : ℕ) → k ≤ 6 → n ≡ 2 ^ k → a < n → b < n → b < a → Shifted k n a b
unfolding move_forks
shifted k n a b h e p q l =
    let m : 2 ^ k ≤ 2 ^ 6 = pow_mono h in
    let d : Differ k a b = differ k a b (rw e at p) (rw e at q) l in
    let c : Differ 64 a b = differ 64 a b (omega arith) (omega arith) l in
    let w : 64 - count_leading_zeros 64 (bit_xor a b) ≡ suc d.top = c.wide ∙ ap suc (beside-one c.top d.top a b c.beside d.beside) in
    let v : (n + b) / 2 ^ (64 - count_leading_zeros 64 (bit_xor a b)) ≡ above k (suc d.top) b = rw (w, e) in
    let i = lowest-inside k a b (rw e at q) d in
    record {
      few = omega arith;
      zeros = leading_le 64 (bit_xor a b);
      shift = omega (arith, d.below);
      fork = omega (arith, i.1);
      set = rw (v, lt-ltb b a l, d.wide) (shl_exact 1 (above k (suc d.top) b) 64 (omega arith) (omega (arith, i.1)) ∙ one-mul (2 ^ above k (suc d.top) b));
    }

-- a move to a greater stop says nothing
pub unmoved : (k forks a b : ℕ) → a ≤ b → forks ≡ bit_or forks (move_forks k a b)
unfolding move_forks
unmoved k forks a b h = rw (le-ltb b a h) (sym (or_zero_r forks))

-- the moves one after another: none at first
pub moves-none : (k : ℕ) (o : ℕ → ℕ) → 0 ≡ moves_forks k (stops_to o 1)
unfolding moves_forks last_forks stops_to
moves-none k o = sym (or_zero_l 0)

-- and then one more
pub moves_more : (k : ℕ) (o : ℕ → ℕ) (p forks a b r : ℕ) → 1 ≤ p → a ≡ o (p - 1) → b ≡ o p → forks ≡ moves_forks k (stops_to o p) → r ≡ bit_or forks (move_forks k a b)
    → r ≡ moves_forks k (stops_to o (p + 1))
unfolding moves_forks last_forks stops_to
moves_more k o zero forks a b r h x y e f = absurd (omega arith)
moves_more k o (suc p) forks a b r h x y e f =
    let z : suc p - 1 ≡ p = omega arith in
    let s : suc p + 1 ≡ suc (suc p) = omega arith in
    rw (s, ← y) (f ∙ rw (e, x, z))

-- the windows of a list before the first: the stops up to the first have no move
pub moves-begin : (k : ℕ) (list rest : List ℕ) (size : ℕ) → size ≡ 2 → rest ≡ list
    → (size ≡ 2) × (length rest ≤ length list) × (0 < length list → 0 < length rest) × (rest ≡ drop (length list - length rest) list) × (0 ≡ moves_forks k (stops_to (in_place list) (length list - length rest + 1)))
moves-begin k list rest size e f =
    let z : length list - length rest ≡ 0 = rw f (omega arith) in
    (e, rw f (omega arith), λ h. rw f h, rw z f, rw z (moves-none k (in_place list)))

-- a list of no stops has no moves either
pub moves-end : (k : ℕ) (o : ℕ → ℕ) (p count forks : ℕ) → count ≤ p → (0 < count → p ≤ count) → (count ≡ 0 → p ≡ 1) → forks ≡ moves_forks k (stops_to o p)
    → forks ≡ moves_forks k (stops_to o count)
unfolding moves_forks stops_to
moves-end k o p zero forks a b c e = e ∙ ap (λ x. moves_forks k (stops_to o x)) (c refl) ∙ sym (moves-none k o)
moves-end k o p (suc count) forks a b c e = let z : p ≡ suc count = omega (arith, b (omega arith)) in e ∙ ap (λ x. moves_forks k (stops_to o x)) z
