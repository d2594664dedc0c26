-- Forks and stops by their numbers: v stands m depths above its stops. Which stops are below it, and whether one of them is filled.
use mathlib.Core.Path.{◌≡◌, sym, ap, ◌∙◌}
use mathlib.Core.Bool.{Bool, true}
use mathlib.Core.Logic.{◌≢◌, ⊎_elim}
use Prim.Native.Nat.{ℕ, zero, suc, ◌+◌, ◌*◌, ◌-◌, ◌/◌, ◌^◌, ◌≤◌, ◌<◌}
use native.Mathlib.Nat.{div-one, div-eq_of_lt, pow-succ', one-mul, mul_comm, zero-mul, mul-le-mul_right}
use native.Mathlib.Decide.{dec_lt}
use native.Mathlib.Omega.{arith}
use lib.Pow.{high, pow_pos, pow-add, pow_mono, shr-shr, shl-shr}
use Rattle.tree.specs.Fork.{side, stop_of}
use Rattle.tree.specs.Block.{beside_of}
use Rattle.tree.proofs.Beside.{Beside, parity, shr-suc}
use Rattle.tree.proofs.Bit.{shr-half, shr-add}
use Rattle.tree.proofs.Block.{block_of, xor-one, beside-block, beside-in-block}
use Rattle.walks.proofs.Prefer.{Trich, trich, below, equal, above as over}
use Rattle.filled.specs.Forks.{filled_below, above}
use Rattle.filled.specs.Table.{sibling}
use Rattle.filled.proofs.Bools.{either, or_left, or_right}

-- v stands m depths above its stops: `depth` depths below the root, fork 1
pub record Level (k m v : ℕ) : Type 0 where
  pub depth : ℕ
  pub sum : k ≡ m + depth
  pub under : v / 2 ^ depth ≡ 1

-- the root
pub level-root : (k : ℕ) → Level k k 1
level-root k = record { depth = 0; sum = omega arith; under = div-one 1 }

-- a side of a fork
pub level-side : (k m v b : ℕ) → b < 2 → Level k (suc m) v → Level k m (side v b)
level-side k m v b h l = let e : side v b / 2 ≡ v = omega arith in
    record { depth = suc l.depth; sum = omega (arith, l.sum); under = shr-suc (side v b) l.depth ∙ rw e l.under }

-- every fork has a level
pub level-fork : (k v : ℕ) → 1 ≤ v → v < 2 ^ k → (m : ℕ) × Level k (suc m) v
level-fork zero v a b = absurd (omega arith)
level-fork (suc k) v a b = go (dec_lt v 2) (λ h. level-fork k (v / 2) h (omega (arith, pow-succ' 2 k)))
  where
    go : Dec (v < 2) → (1 ≤ v / 2 → (m : ℕ) × Level k (suc m) (v / 2)) → (m : ℕ) × Level (suc k) (suc m) v
    go (yes h) ih = let e : v ≡ 1 = omega arith in (k, rw e (level-root (suc k)))
    go (no h) ih = let r = ih (omega arith) in
        (r.0, record { depth = suc r.1.depth; sum = omega (arith, r.1.sum); under = shr-suc v r.1.depth ∙ r.1.under })

-- v has one level
pub level-one : (k m n v : ℕ) → Level k m v → Level k n v → m ≡ n
level-one k m n v l g = go (trich l.depth g.depth)
  where
    -- the root is not below itself
    deeper : (d e : ℕ) → d < e → v / 2 ^ d ≡ 1 → v / 2 ^ e ≡ 1 → ⊥
    deeper d e h p q =
        let f : ℕ = e - suc d in
        let x : e ≡ d + suc f = omega arith in
        let y : v / 2 ^ e ≡ 1 / 2 ^ suc f = ap (λ z. v / 2 ^ z) x ∙ sym (shr-shr v d (suc f)) ∙ ap (λ z. z / 2 ^ suc f) p in
        let z : 1 / 2 ^ suc f ≡ 0 = div-eq_of_lt (omega (arith, pow_mono {i = 1} {j = suc f} (omega arith))) in
        omega (arith, y, z, q)

    go : Trich l.depth g.depth → m ≡ n
    go (below h) = absurd (deeper l.depth g.depth h l.under g.under)
    go (equal h) = omega (arith, l.sum, g.sum)
    go (over h) = absurd (deeper g.depth l.depth h g.under l.under)

module _ (k : ℕ) where
  -- one depth more above a stop
  pub above_half : (m j : ℕ) → above k m j / 2 ≡ above k (suc m) j
  above_half m j = shr-half (2 ^ k + j) m

  -- a stop's own number
  pub above_zero : (j : ℕ) → above k 0 j ≡ 2 ^ k + j
  above_zero j = div-one (2 ^ k + j)

  -- d depths more
  pub above-shr : (m d j : ℕ) → above k m j / 2 ^ d ≡ above k (m + d) j
  above-shr m d j = shr-shr (2 ^ k + j) m d

  -- what is above two stops is the same where their own bits are
  pub above_same : (m a b : ℕ) → m ≤ k → a / 2 ^ m ≡ b / 2 ^ m → above k m a ≡ above k m b
  above_same m a b h e = let f : k ≡ k - m + m = omega arith in
      ap (λ x. (2 ^ x + a) / 2 ^ m) f ∙ shr-add (k - m) m a ∙ ap (λ x. 2 ^ (k - m) + x) e ∙ sym (ap (λ x. (2 ^ x + b) / 2 ^ m) f ∙ shr-add (k - m) m b)

  -- and back
  pub same_above : (m a b : ℕ) → m ≤ k → above k m a ≡ above k m b → a / 2 ^ m ≡ b / 2 ^ m
  same_above m a b h e = let f : k ≡ k - m + m = omega arith in
      omega (arith, ap (λ x. (2 ^ x + a) / 2 ^ m) f ∙ shr-add (k - m) m a, ap (λ x. (2 ^ x + b) / 2 ^ m) f ∙ shr-add (k - m) m b)

  -- the root is above every stop
  pub above_root : (j : ℕ) → j < 2 ^ k → above k k j ≡ 1
  above_root j h = let e : 2 ^ k + j ≡ 1 * 2 ^ k + j = omega (arith, one-mul (2 ^ k)) in rw e (high 1 k h)

  -- what stands m depths above a stop
  pub level-above : (m j : ℕ) → m ≤ k → j < 2 ^ k → Level k m (above k m j)
  level-above m j h b = let e : m + (k - m) ≡ k = omega arith in
      record { depth = k - m; sum = sym e; under = above-shr m (k - m) j ∙ rw e (above_root j b) }

  -- what it is above is a stop
  pub level-stop : (m v j : ℕ) → Level k m v → above k m j ≡ v → j < 2 ^ k
  level-stop m v j l e =
      let d : ℕ = l.depth in
      let r : above k k j ≡ 1 = ap (λ x. above k x j) l.sum ∙ sym (above-shr m d j) ∙ ap (λ x. x / 2 ^ d) e ∙ l.under in
      omega (arith, rw r at (block_of k (2 ^ k + j)).1, one-mul (2 ^ k))

  -- its first stop
  pub level-first : (m v : ℕ) → Level k m v → 2 ^ k ≤ v * 2 ^ m
  level-first m v l =
      let d : ℕ = l.depth in
      let a : 2 ^ d ≤ v = omega (arith, rw l.under at (block_of d v).0, one-mul (2 ^ d)) in
      let e : 2 ^ k ≡ 2 ^ d * 2 ^ m = ap (λ x. 2 ^ x) l.sum ∙ pow-add 2 m d ∙ mul_comm (2 ^ m) (2 ^ d) in
      rw e (mul-le-mul_right (2 ^ m) a)

  -- which is below it
  pub level-has : (m v : ℕ) → Level k m v → above k m (v * 2 ^ m - 2 ^ k) ≡ v
  level-has m v l = let e : 2 ^ k + (v * 2 ^ m - 2 ^ k) ≡ v * 2 ^ m = omega (arith, level-first m v l) in rw e (shl-shr v m)

  -- a number that stands for a stop
  pub level-leaf : (v : ℕ) → Level k 0 v → 2 ^ k + stop_of k v ≡ v
  level-leaf v l =
      let e : k ≡ l.depth = omega (arith, l.sum) in
      let u : v / 2 ^ k ≡ 1 = rw e l.under in
      omega (arith, rw u at (block_of k v).0, one-mul (2 ^ k))

  module _ (s : ℕ → Bool) where
    -- there is a filled stop below v
    pub filled-stop : (m v : ℕ) → Level k m v → filled_below k s m v ≡ true → (j : ℕ) × (above k m j ≡ v) × (s j ≡ true)
    unfolding filled_below
    filled-stop zero v l h = (stop_of k v, above_zero (stop_of k v) ∙ level-leaf v l, h)
    filled-stop (suc m) v l h = ⊎_elim (λ x. up 0 (omega arith) (filled-stop m (side v 0) (level-side k m v 0 (omega arith) l) x))
        (λ x. up 1 (omega arith) (filled-stop m (side v 1) (level-side k m v 1 (omega arith) l) x))
        (either (filled_below k s m (side v 0)) (filled_below k s m (side v 1)) h)
      where
        up : (b : ℕ) → b < 2 → (j : ℕ) × (above k m j ≡ side v b) × (s j ≡ true) → (j : ℕ) × (above k (suc m) j ≡ v) × (s j ≡ true)
        up b c r = (r.0, sym (above_half m r.0) ∙ omega (arith, r.1), r.2)

    -- and back
    pub stop-filled : (m v j : ℕ) → Level k m v → above k m j ≡ v → s j ≡ true → filled_below k s m v ≡ true
    unfolding filled_below
    stop-filled zero v j l e h = let f : stop_of k v ≡ j = omega (arith, above_zero j) in rw f h
    stop-filled (suc m) v j l e h = ⊎_elim
        (λ p. or_left (filled_below k s m (side v 0)) (filled_below k s m (side v 1))
        (stop-filled m (side v 0) j (level-side k m v 0 (omega arith) l) (omega (arith, above_half m j)) h))
        (λ p. or_right (filled_below k s m (side v 0)) (filled_below k s m (side v 1))
        (stop-filled m (side v 1) j (level-side k m v 1 (omega arith) l) (omega (arith, above_half m j)) h))
        (parity (above k m j))

  -- the group beside a stop of one side is the other side
  pub sibling-side : (m v b j : ℕ) → b < 2 → above k m j ≡ side v b → sibling k m j ≡ side v (1 - b)
  sibling-side m v b j h e = rw e (xor-one (side v b) ∙ omega arith)

  -- it is the block of stops beside it
  pub sibling-beside : (m j i : ℕ) → m < k → above k m j ≡ sibling k m i → Beside m j i
  sibling-beside m j i h e =
      let x : above k (suc m) j ≡ above k (suc m) i = sym (above_half m j) ∙ omega (arith, xor-one (above k m i)) ∙ above_half m i in
      record { same = same_above (suc m) j i h x; apart = λ z. absurd (omega (arith, above_same m j i (omega arith) z, xor-one (above k m i))) }

  pub beside-sibling : (m j i : ℕ) → m < k → Beside m j i → above k m j ≡ sibling k m i
  beside-sibling m j i h b =
      let x : above k m j / 2 ≡ above k m i / 2 = above_half m j ∙ above_same (suc m) j i h b.same ∙ sym (above_half m i) in
      let apart : above k m j ≢ above k m i = λ z. b.apart (same_above m j i (omega arith) z) in
      omega (arith, xor-one (above k m i))

  -- which ends within the tree
  pub beside-room : (m i : ℕ) → m < k → i < 2 ^ k → beside_of i m + 2 ^ m ≤ 2 ^ k
  beside-room m i h b =
      let j : ℕ = beside_of i m + (2 ^ m - 1) in
      let w : Beside m j i = (beside-block m j i).1 (omega arith, omega (arith, pow_pos m)) in
      let z : j / 2 ^ k ≡ 0 = beside-in-block m k j i h w ∙ div-eq_of_lt b in
      omega (arith, rw z at (block_of k j).1, zero-mul (2 ^ k), pow_pos m)

  -- its level
  pub level-sibling : (m i : ℕ) → m < k → i < 2 ^ k → Level k m (sibling k m i)
  level-sibling m i h b =
      let first : ℕ = beside_of i m in
      let e : above k m first ≡ sibling k m i = beside-sibling m first i h ((beside-block m first i).1 (omega arith, omega (arith, pow_pos m))) in
      rw e at (level-above m first (omega arith) (omega (arith, beside-room m i h b, pow_pos m)))
