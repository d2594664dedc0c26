-- The moves within a group's block of places, in the order of a set F. The block lists what is below its fork, so their sum is one over the
-- way down from the fork (`block_sum-inner`) and does not ask where the block stands. The two sides of a fork are the halves of its block.
use mathlib.Core.Path.{◌≡◌, refl, sym, ap, ap₂, ◌∙◌}
use mathlib.Core.List.{List}
use mathlib.Core.Logic.{◌≢◌, ◌⊎◌, inl, inr}
use Prim.Native.Nat.{ℕ, zero, suc, pred, ◌+◌, ◌*◌, ◌-◌, ◌/◌, ◌%◌, ◌^◌, ◌≤◌, ◌<◌}
use native.Mathlib.Nat.{pow-succ', zero-add, add-suc}
use native.Mathlib.Omega.{arith}
use lib.Bits.{bit_xor}
use lib.Pow.{pow_pos}
use lib.ListN.{length}
use Rattle.tree.specs.Fork.{bit, side}
use Rattle.tree.specs.Order.{order_of}
use Rattle.tree.specs.Neighbour.{in_place}
use Rattle.tree.specs.Total.{moves, total}
use Rattle.tree.proofs.Link.{length-order_of}
use Rattle.tree.proofs.Beside.{parity}
use Rattle.tree.proofs.Node.{place, place-zero}
use Rattle.groups.specs.Group.{group_size, group_start}
use Rattle.group_sums.specs.Travel.{sum_from}
use Rattle.group_sums.proofs.SumFrom.{sum_from-split, sum_from-first, sum_from-same}
use Rattle.groups.proofs.Subtree.{sub, sub-flip}
use Rattle.groups.proofs.Height.{AtDepth, height-at, side-depth}
use Rattle.groups.proofs.Start.{first, first-side, group_start-first, in_block}

-- the c moves that start with the one from place a
abbrev pub span : (ℕ → ℕ → ℕ) → List ℕ → ℕ → ℕ → ℕ
span t o a c = sum_from (λ q. t (in_place o q) (in_place o (suc q))) a c

-- those of the block of v
unfoldable pub block_sum : (ℕ → ℕ → ℕ) → ℕ → List ℕ → ℕ → ℕ
block_sum t k o v = span t o (group_start k o v) (group_size k v - 1)

-- the moves of what is below v, m depths down
pub inner : (ℕ → ℕ → ℕ) → ℕ → (ℕ → ℕ) → ℕ → ℕ → ℕ
inner t k f v m = sum_from (λ x. t (sub f v m x - 2 ^ k) (sub f v m (suc x) - 2 ^ k)) 0 (2 ^ m - 1)

-- the first half of a block, and the second
at_zero : (a r p : ℕ) → r ≡ 0 → a + r * p ≡ a
at_zero a r p e = rw e (omega arith)

at_one : (a r p : ℕ) → r ≡ 1 → a + r * p ≡ a + p
at_one a r p e = rw e (omega arith)

-- the moves from place 0 on, as the total has them
pub span-moves : (t : ℕ → ℕ → ℕ) (o : List ℕ) (c : ℕ) → span t o 0 c ≡ moves t o c
span-moves t o zero = refl
span-moves t o (suc c) = rw (zero-add c, span-moves t o c)

module _ (t : ℕ → ℕ → ℕ) (k F : ℕ) where
  -- the sum of a group over its block
  pub block_sum-block : (v h m : ℕ) → AtDepth k v h m → block_sum t k (order_of k F) v ≡ span t (order_of k F) (first F v h m) (2 ^ m - 1)
  unfolding block_sum
  block_sum-block v h m d = rw (group_start-first k F v h m d, height-at k v h m d)

  -- and over the way down from the fork
  pub block_sum-inner : (v h m : ℕ) → AtDepth k v h m → block_sum t k (order_of k F) v ≡ inner t k (bit F) v m
  unfolding inner
  block_sum-inner v h m d = block_sum-block v h m d ∙ sum_from-same (λ x. t (in_place (order_of k F) x) (in_place (order_of k F) (suc x))) (λ x. t (sub (bit F) v m x - 2 ^ k) (sub (bit F) v m (suc x) - 2 ^ k)) (first F v h m) 0 (2 ^ m - 1) each
    where
      stop_in_place : (x : ℕ) → x < 2 ^ m → in_place (order_of k F) (first F v h m + x) ≡ sub (bit F) v m x - 2 ^ k
      stop_in_place x l = omega (arith, in_block k F v h m d x l)

      each : (j : ℕ) → j < 2 ^ m - 1 → t (in_place (order_of k F) (first F v h m + j)) (in_place (order_of k F) (suc (first F v h m + j)))
          ≡ t (sub (bit F) v m (0 + j) - 2 ^ k) (sub (bit F) v m (suc (0 + j)) - 2 ^ k)
      each j l = rw (zero-add j, ← add-suc (first F v h m) j) (ap₂ t (stop_in_place j (omega arith)) (stop_in_place (suc j) (omega arith)))

  -- the sum of a stop's group is 0
  pub block_sum-stop : (v : ℕ) → 2 ^ k ≤ v → v < 2 ^ suc k → block_sum t k (order_of k F) v ≡ 0
  block_sum-stop v a b = block_sum-block v k 0 (record { sum = omega arith; low = a; high = b })

  -- the sum of a fork is that of its two sides and the move between their blocks
  pub block_sum-sides : (v h m : ℕ) → AtDepth k v h (suc m) → let o = order_of k F in let a = first F v h (suc m) in
      block_sum t k o v ≡ block_sum t k o (side v 0) + block_sum t k o (side v 1) + t (in_place o (a + (2 ^ m - 1))) (in_place o (suc (a + (2 ^ m - 1))))
  block_sum-sides v h m d = go (parity (bit F v))
    where
      o : List ℕ
      o = order_of k F

      a : ℕ
      a = first F v h (suc m)

      c : ℕ
      c = 2 ^ m - 1

      step : ℕ → ℕ
      step q = t (in_place o q) (in_place o (suc q))

      parts : sum_from step a (2 ^ suc m - 1) ≡ sum_from step a c + (step (a + c) + sum_from step (a + 2 ^ m) c)
      parts =
          let e : 2 ^ suc m - 1 ≡ c + suc c = omega (arith, pow-succ' 2 m, pow_pos m) in
          let i : suc (a + c) ≡ a + 2 ^ m = omega (arith, pow_pos m) in
          rw e (sum_from-split step a c (suc c) ∙ ap (λ x. sum_from step a c + x) (sum_from-first step (a + c) c ∙ rw i))

      sum-side : (s : ℕ) → s < 2 → block_sum t k o (side v s) ≡ sum_from step (a + (s + bit F v) % 2 * 2 ^ m) c
      sum-side s l = block_sum-block (side v s) (suc h) m (side-depth k v h m s l d) ∙ rw (first-side F v h m s l)

      go : (bit F v % 2 ≡ 0) ⊎ (bit F v % 2 ≡ 1) → block_sum t k o v ≡ block_sum t k o (side v 0) + block_sum t k o (side v 1) + step (a + c)
      go (inl e) =
          let i : a + (0 + bit F v) % 2 * 2 ^ m ≡ a = at_zero a ((0 + bit F v) % 2) (2 ^ m) (omega arith) in
          let j : a + (1 + bit F v) % 2 * 2 ^ m ≡ a + 2 ^ m = at_one a ((1 + bit F v) % 2) (2 ^ m) (omega arith) in
          omega (arith, block_sum-block v h (suc m) d, parts, rw i at (sum-side 0 (omega arith)), rw j at (sum-side 1 (omega arith)))
      go (inr e) =
          let i : a + (0 + bit F v) % 2 * 2 ^ m ≡ a + 2 ^ m = at_one a ((0 + bit F v) % 2) (2 ^ m) (omega arith) in
          let j : a + (1 + bit F v) % 2 * 2 ^ m ≡ a = at_zero a ((1 + bit F v) % 2) (2 ^ m) (omega arith) in
          omega (arith, block_sum-block v h (suc m) d, parts, rw i at (sum-side 0 (omega arith)), rw j at (sum-side 1 (omega arith)))

  -- the sum of fork 1 is the order's total
  pub block_sum-root : block_sum t k (order_of k F) 1 ≡ total t (order_of k F)
  block_sum-root =
      let z : place (bit F) 0 1 ≡ 0 = place-zero (bit F) 1 in
      let e : first F 1 0 k ≡ 0 = rw z (omega arith) in
      let l : pred (length (order_of k F)) ≡ 2 ^ k - 1 = omega (arith, length-order_of k F) in
      block_sum-block 1 0 k (record { sum = omega arith; low = omega arith; high = omega arith })
      ∙ rw (e, l) (span-moves t (order_of k F) (2 ^ k - 1))

-- an exchange of a fork that is not u and not below u leaves the sum of u as it is
pub block_sum-away : (t : ℕ → ℕ → ℕ) (k F v u h m : ℕ) → AtDepth k u h m → ((j : ℕ) → v / 2 ^ j ≢ u)
    → block_sum t k (order_of k (bit_xor F (2 ^ v))) u ≡ block_sum t k (order_of k F) u
unfolding inner
block_sum-away t k F v u h m d away =
    block_sum-inner t k (bit_xor F (2 ^ v)) u h m d ∙ sum_from-same (moved (bit_xor F (2 ^ v))) (moved F) 0 0 (2 ^ m - 1) each ∙ sym (block_sum-inner t k F u h m d)
  where
    moved : ℕ → ℕ → ℕ
    moved G x = t (sub (bit G) u m x - 2 ^ k) (sub (bit G) u m (suc x) - 2 ^ k)

    at : (x : ℕ) → sub (bit (bit_xor F (2 ^ v))) u m x - 2 ^ k ≡ sub (bit F) u m x - 2 ^ k
    at x = ap (λ z. z - 2 ^ k) (sub-flip F v u m (λ j _. away j) x)

    each : (j : ℕ) → j < 2 ^ m - 1 → t (sub (bit (bit_xor F (2 ^ v))) u m (0 + j) - 2 ^ k) (sub (bit (bit_xor F (2 ^ v))) u m (suc (0 + j)) - 2 ^ k)
        ≡ t (sub (bit F) u m (0 + j) - 2 ^ k) (sub (bit F) u m (suc (0 + j)) - 2 ^ k)
    each j l = ap₂ t (at (0 + j)) (at (suc (0 + j)))
