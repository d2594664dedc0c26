-- Groups and exchanges in the tree's own words, of an allowed order: the group of a fork or stop fills a block of places, and an exchange of
-- one fork swaps the blocks of its two sides.
use mathlib.Core.Path.{◌≡◌, ap, ◌∙◌}
use mathlib.Core.Bool.{true}
use mathlib.Core.List.{List}
use mathlib.Core.Logic.{◌↔◌, ◌⊎◌, inl, inr}
use Prim.Native.Nat.{ℕ, suc, ◌+◌, ◌-◌, ◌*◌, ◌%◌, ◌^◌, ◌≤◌, ◌<◌}
use native.Mathlib.Omega.{arith}
use Rattle.tree.specs.Fork.{bit, side}
use Rattle.tree.specs.Order.{order_of}
use Rattle.tree.specs.Neighbour.{in_place}
use Rattle.tree.proofs.Beside.{parity}
use Rattle.orders.specs.Allowed.{is_allowed, forks_of}
use Rattle.orders.specs.Exchange.{exchange}
use Rattle.orders.proofs.Allowed.{forks_of-gives}
use Rattle.groups.specs.Exchange.{exchange_fork}
use Rattle.groups.specs.Group.{height, group_size, half_size, in_group, group_start}
use Rattle.groups.specs.Swap.{BlocksSwapped}
use Rattle.groups.proofs.Height.{AtDepth, height-at, at-height, fork-depth, side-depth}
use Rattle.groups.proofs.Start.{first, first_fits, first-side, group_start-first, group-block}
use Rattle.groups.proofs.Swap.{Swapped, flip-swaps, halves-swapped, swapped-either}

module _ (k : ℕ) (o : List ℕ) (allowed : is_allowed k o ≡ true) where
  -- the order's set of forks
  F : ℕ
  F = forks_of k o

  is : order_of k F ≡ o
  unfolding F
  is = (forks_of-gives k o allowed).given

  -- the first place of a group, from its depth
  start-at : (v h m : ℕ) → AtDepth k v h m → group_start k o v ≡ first F v h m
  start-at v h m d = rw is at (group_start-first k F v h m d)

  -- ---- a group's block

  module _ (v : ℕ) (low : 1 ≤ v) (high : v < 2 ^ suc k) where
    d : AtDepth k v (k - height k v) (height k v)
    d = at-height k v low high

    -- ends where the order does or before
    pub start_fits : group_start k o v + group_size k v ≤ 2 ^ k
    start_fits = rw (start-at v _ _ d) (first_fits k F v (k - height k v) (height k v) d)

    -- and holds the stops of the group and no other
    pub group-places : (p : ℕ) → p < 2 ^ k → (in_group k v (in_place o p) ≡ true) ↔ ((group_start k o v ≤ p) × (p < group_start k o v + group_size k v))
    group-places p b = rw (start-at v _ _ d) (rw is at (group-block k F v (k - height k v) (height k v) d p b))

  -- ---- an exchange of one fork

  module _ (v : ℕ) (low : 1 ≤ v) (high : v < 2 ^ k) where
    -- the fork's depth, and how many depths its stops lie below its sides
    h : ℕ
    h = k - height k v

    m : ℕ
    m = height k v - 1

    deep : AtDepth k v h (suc m)
    unfolding h m
    deep = fork-depth k v low high

    -- swaps the halves of the fork's block
    pub fork-swaps : Swapped (2 ^ k) (group_start k o v) (half_size k v) o (exchange_fork k o v)
    unfolding exchange F m
    fork-swaps = rw (start-at v h (suc m) deep) (rw is at (flip-swaps k F v h m deep))

    -- which are the blocks of its sides
    pub side-size : (c : ℕ) → c < 2 → group_size k (side v c) ≡ half_size k v
    unfolding m
    side-size c two = ap (λ x. 2 ^ x) (height-at k (side v c) (suc h) m (side-depth k v h m c two deep))

    pub side-start : (c : ℕ) → c < 2 → group_start k o (side v c) ≡ group_start k o v + (c + bit (forks_of k o) v) % 2 * half_size k v
    unfolding F m
    side-start c two =
        start-at (side v c) (suc h) m (side-depth k v h m c two deep) ∙ rw (start-at v h (suc m) deep) (first-side F v h m c two)

    -- so it swaps the blocks of the sides, and changes nothing else
    pub sides-swap : BlocksSwapped (2 ^ k) (group_start k o (side v 0)) (group_start k o (side v 1)) (group_size k (side v 0)) o (exchange_fork k o v)
    sides-swap = rw (side-size 0 (omega arith)) (go (parity b))
      where
        a : ℕ
        a = group_start k o v

        half : ℕ
        half = half_size k v

        b : ℕ
        b = bit (forks_of k o) v

        halves : BlocksSwapped (2 ^ k) a (a + half) half o (exchange_fork k o v)
        halves = halves-swapped (2 ^ k) a half o (exchange_fork k o v) fork-swaps

        -- side c starts with the half s of the block
        in-half : (c s : ℕ) → c < 2 → (c + b) % 2 ≡ s → group_start k o (side v c) ≡ a + s * half
        in-half c s two e = side-start c two ∙ rw e

        go : (b % 2 ≡ 0) ⊎ (b % 2 ≡ 1) → BlocksSwapped (2 ^ k) (group_start k o (side v 0)) (group_start k o (side v 1)) half o (exchange_fork k o v)
        go (inl e) =
            let x : group_start k o (side v 0) ≡ a = omega (arith, in-half 0 0 (omega arith) (omega arith)) in
            let y : group_start k o (side v 1) ≡ a + half = omega (arith, in-half 1 1 (omega arith) (omega arith)) in
            rw (x, y) halves
        go (inr e) =
            let x : group_start k o (side v 0) ≡ a + half = omega (arith, in-half 0 1 (omega arith) (omega arith)) in
            let y : group_start k o (side v 1) ≡ a = omega (arith, in-half 1 0 (omega arith) (omega arith)) in
            rw (x, y) (swapped-either (2 ^ k) a (a + half) half o (exchange_fork k o v) halves)
