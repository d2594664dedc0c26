-- The depth of a fork, and how many depths its stops lie below it.
use mathlib.Core.Path.{◌≡◌, refl}
use mathlib.Core.Bool.{cond}
use Prim.Native.Nat.{ℕ, zero, suc, ◌+◌, ◌-◌, ◌^◌, ◌≤◌, ◌<◌}
use native.Mathlib.Nat.{pow-succ'}
use native.Mathlib.Decide.{dec_le}
use native.Mathlib.Omega.{arith}
use lib.Dec.{leb}
use lib.Pow.{pow_mono}
use borrow.Author.Tests.{le-leb, lt-leb}
use Rattle.tree.specs.Fork.{side}
use Rattle.groups.specs.Group.{height}

-- v stands at depth h of a tree of 2^k stops, and the stops m depths below it: a fork where m is not 0, and otherwise a stop with 2^k added
pub record AtDepth (k v h m : ℕ) : Type 0 where
  pub sum : k ≡ h + m
  pub low : 2 ^ h ≤ v
  pub high : v < 2 ^ suc h

-- the height from the depth
pub height-at : (k v h m : ℕ) → AtDepth k v h m → height k v ≡ m
unfolding height
height-at zero v h m d = omega (arith, d.sum)
height-at (suc k) v h m d = go (height-at k v h) m d.sum (dec_le (2 ^ suc k) v)
  where
    go : ((m : ℕ) → AtDepth k v h m → height k v ≡ m) → (m : ℕ) → suc k ≡ h + m → Dec (2 ^ suc k ≤ v) → cond (leb (2 ^ suc k) v) 0 (suc (height k v)) ≡ m
    go ih zero s (yes l) = rw (le-leb _ _ l)
    go ih zero s (no l) = let e : h ≡ suc k = omega arith in absurd (l (rw (← e) d.low))
    go ih (suc m) s (yes l) = absurd (omega (arith, d.high, pow_mono {i = suc h} {j = suc k} (omega arith)))
    go ih (suc m) s (no l) =
        let lt : v < 2 ^ suc k = omega arith in
        rw (lt-leb _ _ lt) (omega (arith, ih m (record { sum = omega arith; low = d.low; high = d.high })))

-- the depth from the height
pub at-height : (k v : ℕ) → 1 ≤ v → v < 2 ^ suc k → AtDepth k v (k - height k v) (height k v)
unfolding height
at-height zero v a b = record { sum = refl; low = a; high = b }
at-height (suc k) v a b = go (at-height k v a) (dec_le (2 ^ suc k) v)
  where
    go : (v < 2 ^ suc k → AtDepth k v (k - height k v) (height k v)) → Dec (2 ^ suc k ≤ v) → AtDepth (suc k) v (suc k - cond (leb (2 ^ suc k) v) 0 (suc (height k v))) (cond (leb (2 ^ suc k) v) 0 (suc (height k v)))
    go ih (yes l) = let e : suc k - 0 ≡ suc k = omega arith in rw (le-leb _ _ l, e) (record { sum = omega arith; low = l; high = b })
    go ih (no l) =
        let lt : v < 2 ^ suc k = omega arith in
        let d : AtDepth k v (k - height k v) (height k v) = ih lt in
        let e : suc k - suc (height k v) ≡ k - height k v = omega arith in
        rw (lt-leb _ _ lt, e) (record { sum = omega (arith, d.sum); low = d.low; high = d.high })

-- a fork has stops one depth below it or more
pub height-pos : (k v : ℕ) → 1 ≤ v → v < 2 ^ k → 1 ≤ height k v
height-pos k v a b = go (height k v) refl (at-height k v a (omega (arith, pow-succ' 2 k)))
  where
    go : (m : ℕ) → height k v ≡ m → AtDepth k v (k - height k v) (height k v) → 1 ≤ height k v
    go zero e d = let i : k - height k v ≡ k = omega arith in absurd (omega (arith, rw i at d.low))
    go (suc m) e d = omega arith

-- a fork with the depths below its sides
pub fork-depth : (k v : ℕ) → 1 ≤ v → v < 2 ^ k → AtDepth k v (k - height k v) (suc (height k v - 1))
fork-depth k v a b =
    let e : suc (height k v - 1) ≡ height k v = omega (arith, height-pos k v a b) in
    rw e (at-height k v a (omega (arith, pow-succ' 2 k)))

-- the sides of a fork, one depth below it
pub side-depth : (k v h m s : ℕ) → s < 2 → AtDepth k v h (suc m) → AtDepth k (side v s) (suc h) m
side-depth k v h m s l d = record { sum = omega (arith, d.sum); low = omega (arith, d.low, pow-succ' 2 h); high = omega (arith, d.high, pow-succ' 2 (suc h)) }
