-- The inner travel of the groups of an allowed order. A group fills a block of places, so the moves between two of its stops are those within
-- the block (`travel-block`), and the laws of blocks are laws of groups.
use mathlib.Core.Path.{◌≡◌, refl, sym, ap, ap₂, ◌∙◌}
use mathlib.Core.Bool.{Bool, true, false, cond, ◌&&◌}
use mathlib.Core.List.{List}
use mathlib.Core.Logic.{◌≢◌}
use Prim.Native.Nat.{ℕ, zero, suc, ◌+◌, ◌*◌, ◌-◌, ◌/◌, ◌^◌, ◌≤◌, ◌<◌}
use native.Mathlib.Nat.{pow-succ', zero-add}
use native.Mathlib.Omega.{arith}
use lib.ListN.{length, get_or}
use lib.Pow.{pow_pos}
use Rattle.base.proofs.Lists.{length-tabulate, get_or-tabulate, tabulate-cong}
use Rattle.tree.specs.Fork.{side}
use Rattle.tree.specs.Order.{order_of}
use Rattle.tree.specs.Neighbour.{in_place}
use Rattle.tree.specs.Total.{total}
use Rattle.orders.specs.Allowed.{is_allowed, forks_of}
use Rattle.orders.specs.Exchange.{exchange}
use Rattle.orders.proofs.Allowed.{forks_of-gives, allowed-long, allowed-below, below_each}
use Rattle.groups.specs.Exchange.{exchange_fork}
use Rattle.groups.specs.Group.{height, in_group, group_start}
use Rattle.groups.proofs.Height.{AtDepth, at-height, fork-depth}
use Rattle.groups.proofs.Sides.{start_fits, group-places}
use Rattle.groups.proofs.Start.{first, group_start-first}
use Rattle.group_sums.specs.Travel.{sum_from, move_within, inner_travel, sum_at, sums_of}
use Rattle.group_sums.specs.Between.{between, move_into}
use Rattle.group_sums.proofs.SumFrom.{sum_from-split, sum_from-same, sum_from-none, sum_from-le}
use Rattle.group_sums.proofs.Block.{block_sum, block_sum-root, block_sum-stop, block_sum-sides, block_sum-away}

-- ---- a group's moves are those of its block

module _ (t : ℕ → ℕ → ℕ) (k : ℕ) (o : List ℕ) (allowed : is_allowed k o ≡ true) (v : ℕ) (low : 1 ≤ v) (high : v < 2 ^ suc k) where
  a : ℕ
  a = group_start k o v

  s : ℕ
  s = 2 ^ height k v

  -- a place of the block holds a member
  member : (p : ℕ) → p < 2 ^ k → a ≤ p → p < a + s → in_group k v (in_place o p) ≡ true
  unfolding a s
  member p b x y = (group-places k o allowed v low high p b).1 (x, y)

  -- no other place does
  outside : (p : ℕ) → p < 2 ^ k → ((a ≤ p) × (p < a + s) → ⊥) → in_group k v (in_place o p) ≡ false
  unfolding a s
  outside p b n = go (in_group k v (in_place o p)) refl
    where
      go : (t : Bool) → in_group k v (in_place o p) ≡ t → in_group k v (in_place o p) ≡ false
      go true e = absurd (n ((group-places k o allowed v low high p b).0 e))
      go false e = e

  fits : a + s ≤ 2 ^ k
  unfolding a s
  fits = start_fits k o allowed v low high

  some : 0 < s
  unfolding s
  some = pow_pos (height k v)

  step : ℕ → ℕ
  step q = t (in_place o q) (in_place o (suc q))

  -- without the second stop no move counts
  second : (b : Bool) (x : ℕ) → cond (b && false) x 0 ≡ 0
  second true x = refl
  second false x = refl

  -- a move before the block, within it and behind it
  move-before : (q : ℕ) → q < a → move_within t k o v q ≡ 0
  unfolding move_within
  move-before q l = rw (outside q (omega (arith, fits, some)) (λ h. absurd (omega (arith, h.0))))

  move-within : (q : ℕ) → a ≤ q → suc q < a + s → step q ≡ move_within t k o v q
  unfolding move_within step
  move-within q x y = rw (member q (omega (arith, fits)) x (omega arith), member (suc q) (omega (arith, fits)) (omega arith) y)

  move-behind : (q : ℕ) → suc q < 2 ^ k → a + s ≤ suc q → move_within t k o v q ≡ 0
  unfolding move_within step
  move-behind q b x = rw (outside (suc q) b (λ h. absurd (omega (arith, h.1)))) (second (in_group k v (in_place o q)) (step q))

  pub travel-block : inner_travel t k o v ≡ block_sum t k o v
  unfolding inner_travel block_sum a s step
  travel-block =
      let r : ℕ = 2 ^ k - a - s in
      let c : ℕ = s - 1 in
      let w : ℕ → ℕ = move_within t k o v in
      let e : 2 ^ k - 1 ≡ a + (c + r) = omega (arith, fits, some) in
      let one : sum_from w 0 a ≡ 0 = sum_from-none w 0 a (λ j l. rw (zero-add j) (move-before j l)) in
      let two : sum_from step a c ≡ sum_from w a c = sum_from-same step w a a c (λ j l. move-within (a + j) (omega arith) (omega (arith, some))) in
      let three : sum_from w (a + c) r ≡ 0 = sum_from-none w (a + c) r (λ j l. move-behind (a + c + j) (omega (arith, fits, some)) (omega (arith, some))) in
      let parts : sum_from w 0 (a + (c + r)) ≡ sum_from w 0 a + (sum_from w a c + sum_from w (a + c) r)
      = sum_from-split w 0 a (c + r) ∙ rw (zero-add a) (ap (λ x. sum_from w 0 a + x) (sum_from-split w a c r)) in
      rw e (omega arith)

-- ---- bounds and other times

-- a move is no longer than the longest time
within-le : (t : ℕ → ℕ → ℕ) (k : ℕ) (o : List ℕ) (v B : ℕ) → ((i j : ℕ) → t i j ≤ B) → (q : ℕ) → move_within t k o v q ≤ B
unfolding move_within
within-le t k o v B h q = go (in_group k v (in_place o q) && in_group k v (in_place o (suc q)))
  where
    go : (b : Bool) → cond b (t (in_place o q) (in_place o (suc q))) 0 ≤ B
    go true = h _ _
    go false = omega arith

-- so a sum has at most n - 1 times the longest time
pub travel-le : (t : ℕ → ℕ → ℕ) (k : ℕ) (o : List ℕ) (v B : ℕ) → ((i j : ℕ) → t i j ≤ B) → inner_travel t k o v ≤ (2 ^ k - 1) * B
unfolding inner_travel
travel-le t k o v B h = sum_from-le (move_within t k o v) 0 (2 ^ k - 1) B (within-le t k o v B h)

-- times that agree for the stops of the tree give the same sums
pub sums_same : (t u : ℕ → ℕ → ℕ) (k : ℕ) (o : List ℕ) → is_allowed k o ≡ true → ((i j : ℕ) → i < 2 ^ k → j < 2 ^ k → t i j ≡ u i j)
    → sums_of t k o ≡ sums_of u k o
unfolding sum_at inner_travel move_within
sums_same t u k o allowed same = tabulate-cong (2 ^ k) (sum_at t k o) (sum_at u k o) each
  where
    stop : (q : ℕ) → q < 2 ^ k → in_place o q < 2 ^ k
    stop q l = below_each (2 ^ k) o (allowed-below k o allowed) q (omega (arith, allowed-long k o allowed))

    each : (v : ℕ) → v < 2 ^ k → sum_at t k o v ≡ sum_at u k o v
    each zero l = refl
    each (suc v) l = sum_from-same (move_within t k o (suc v)) (move_within u k o (suc v)) 0 0 (2 ^ k - 1)
        (λ j b. let q : 0 + j < 2 ^ k = omega arith in
        let r : suc (0 + j) < 2 ^ k = omega arith in
        ap (λ x. cond (in_group k (suc v) (in_place o (0 + j)) && in_group k (suc v) (in_place o (suc (0 + j)))) x 0) (same _ _ (stop (0 + j) q) (stop (suc (0 + j)) r)))

-- ---- the list of sums

-- n sums
pub length-sums_of : (t : ℕ → ℕ → ℕ) (k : ℕ) (o : List ℕ) → length (sums_of t k o) ≡ 2 ^ k
length-sums_of t k o = length-tabulate (2 ^ k) (sum_at t k o)

-- 0 in place 0
pub sums-zero : (t : ℕ → ℕ → ℕ) (k : ℕ) (o : List ℕ) → get_or (sums_of t k o) 0 0 ≡ 0
unfolding sum_at
sums-zero t k o = get_or-tabulate (2 ^ k) (sum_at t k o) 0 0 (pow_pos k)

-- that of fork v in place v
pub sum_at-fork : (t : ℕ → ℕ → ℕ) (k : ℕ) (o : List ℕ) (v : ℕ) → 1 ≤ v → sum_at t k o v ≡ inner_travel t k o v
unfolding sum_at
sum_at-fork t k o zero a = absurd (omega arith)
sum_at-fork t k o (suc v) a = refl

pub sums-fork : (t : ℕ → ℕ → ℕ) (k : ℕ) (o : List ℕ) (v : ℕ) → 1 ≤ v → v < 2 ^ k → get_or (sums_of t k o) v 0 ≡ inner_travel t k o v
sums-fork t k o v a b = get_or-tabulate (2 ^ k) (sum_at t k o) v 0 b ∙ sum_at-fork t k o v a

-- ---- the laws, of an allowed order

module _ (t : ℕ → ℕ → ℕ) (k : ℕ) (o : List ℕ) (allowed : is_allowed k o ≡ true) where
  F : ℕ
  F = forks_of k o

  is : order_of k F ≡ o
  unfolding F
  is = (forks_of-gives k o allowed).given

  -- the sum of fork 1 is the order's total
  pub travel-root : inner_travel t k o 1 ≡ total t o
  travel-root = travel-block t k o allowed 1 (omega arith) (omega (arith, pow-succ' 2 k, pow_pos k)) ∙ rw is at (block_sum-root t k F)

  -- a stop's group has no move
  pub travel-stop : (v : ℕ) → 2 ^ k ≤ v → v < 2 ^ suc k → inner_travel t k o v ≡ 0
  travel-stop v a b = travel-block t k o allowed v (omega (arith, pow_pos k)) b ∙ rw is at (block_sum-stop t k F v a b)

  module _ (v : ℕ) (low : 1 ≤ v) (high : v < 2 ^ k) where
    m : ℕ
    m = height k v - 1

    h : ℕ
    h = k - height k v

    deep : AtDepth k v h (suc m)
    unfolding m h
    deep = fork-depth k v low high

    start : first F v h (suc m) ≡ group_start k o v
    start = sym (rw is at (group_start-first k F v h (suc m) deep))

    in_tree : (s : ℕ) → s < 2 → side v s < 2 ^ suc k
    in_tree s l = omega (arith, pow-succ' 2 k)

    block : (u : ℕ) → 1 ≤ u → u < 2 ^ suc k → inner_travel t k o u ≡ block_sum t k o u
    block u = travel-block t k o allowed u

    -- the sum of a fork is those of its two sides and the move between their blocks
    pub travel-sides : inner_travel t k o v ≡ inner_travel t k o (side v 0) + inner_travel t k o (side v 1) + move_into t o (between k o v)
    unfolding m
    travel-sides =
        let a : ℕ = group_start k o v in
        let i : a + 2 ^ m - 1 ≡ a + (2 ^ m - 1) = omega (arith, pow_pos m) in
        let j : a + 2 ^ m ≡ suc (a + (2 ^ m - 1)) = omega (arith, pow_pos m) in
        let e : move_into t o (a + 2 ^ m) ≡ t (in_place o (a + (2 ^ m - 1))) (in_place o (suc (a + (2 ^ m - 1))))
        = ap₂ t (ap (in_place o) i) (ap (in_place o) j) in
        rw (e, block v low (omega (arith, pow-succ' 2 k)), block (side v 0) (omega arith) (in_tree 0 (omega arith)), block (side v 1) (omega arith) (in_tree 1 (omega arith)))
        (rw (is, start) at (block_sum-sides t k F v h m deep))

    -- an exchange of v leaves the sum of a fork that is not v and not above v
    pub travel-other : is_allowed k (exchange_fork k o v) ≡ true → (u : ℕ) → 1 ≤ u → u < 2 ^ k → ((j : ℕ) → v / 2 ^ j ≢ u)
        → inner_travel t k (exchange_fork k o v) u ≡ inner_travel t k o u
    unfolding exchange F
    travel-other allowed' u a b away =
        let c : u < 2 ^ suc k = omega (arith, pow-succ' 2 k) in
        travel-block t k (exchange_fork k o v) allowed' u a c
        ∙ rw is at (block_sum-away t k F v u (k - height k u) (height k u) (at-height k u a c) away)
        ∙ sym (block u a c)
