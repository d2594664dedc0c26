-- The place between the two sides of a fork: the move into it is the one between their blocks. Each place but the first is such a place of
-- exactly one fork, the lowest above it and the place before, so to go through the places is to go through the forks.
use mathlib.Core.Path.{◌≡◌, refl, sym, ap, subst, ◌∙◌}
use mathlib.Core.Bool.{true}
use mathlib.Core.List.{List}
use mathlib.Core.Logic.{◌⊎◌, inl, inr}
use Prim.Native.Nat.{ℕ, zero, suc, ◌+◌, ◌*◌, ◌-◌, ◌/◌, ◌%◌, ◌^◌, ◌≤◌, ◌<◌}
use native.Mathlib.Nat.{pow-succ'}
use native.Mathlib.Omega.{arith}
use lib.Bits.{bit_xor}
use lib.Pow.{pow_pos, pow_mono, shr_lt}
use Rattle.tree.specs.Fork.{bit}
use Rattle.tree.specs.Order.{order_of}
use Rattle.tree.specs.Neighbour.{trail, reach, in_place, lowest_fork}
use Rattle.tree.proofs.Beside.{parity, trail-lt, trail-split, trail-join}
use Rattle.tree.proofs.Block.{block-only}
use Rattle.tree.proofs.Node.{node, place, node-ge, node-lt, node-place, place-node, place-half}
use Rattle.orders.specs.Allowed.{is_allowed, forks_of}
use Rattle.orders.specs.Exchange.{exchange}
use Rattle.orders.proofs.Allowed.{forks_of-gives}
use Rattle.orders.proofs.Shift.{lowest-shift}
use Rattle.groups.specs.Exchange.{exchange_fork}
use Rattle.groups.specs.Group.{height, half_size}
use Rattle.groups.proofs.Height.{AtDepth, height-at, fork-depth}
use Rattle.groups.proofs.Start.{first_fits, group_start-first, node-up}
use Rattle.groups.proofs.Swap.{place-flip}
use Rattle.group_sums.specs.Between.{between}

-- ---- in the order of a set F

-- the first place of the second half of block b of 2^(m+1) places is an odd multiple of 2^m
odd-multiple : (b m : ℕ) → b * 2 ^ suc m + 2 ^ m ≡ (2 * b + 1) * 2 ^ m
odd-multiple b m = rw (pow-succ' 2 m) (omega arith)

-- half the number of a block is that of the block of twice its size that it lies in
half-block : (b c m : ℕ) → b / 2 ≡ c → (b * 2 ^ suc m + 2 ^ m) / 2 ^ suc (suc m) ≡ c
half-block b c m e = block-only (suc (suc m)) (b * 2 ^ suc m + 2 ^ m) c (go (parity b)) (go' (parity b))
  where
    go : (b % 2 ≡ 0) ⊎ (b % 2 ≡ 1) → c * 2 ^ suc (suc m) ≤ b * 2 ^ suc m + 2 ^ m
    go (inl x) = let i : b ≡ 2 * c = omega arith in rw (i, pow-succ' 2 (suc m)) (omega arith)
    go (inr x) = let i : b ≡ 2 * c + 1 = omega arith in rw (i, pow-succ' 2 (suc m)) (omega arith)

    go' : (b % 2 ≡ 0) ⊎ (b % 2 ≡ 1) → b * 2 ^ suc m + 2 ^ m < c * 2 ^ suc (suc m) + 2 ^ suc (suc m)
    go' (inl x) = let i : b ≡ 2 * c = omega arith in rw (i, pow-succ' 2 (suc m)) (omega (arith, pow_pos m, pow-succ' 2 m))
    go' (inr x) = let i : b ≡ 2 * c + 1 = omega arith in rw (i, pow-succ' 2 (suc m)) (omega (arith, pow_pos m, pow-succ' 2 m))

module _ (k F v h m : ℕ) (d : AtDepth k v h (suc m)) where
  b : ℕ
  b = place (bit F) h v

  at : ℕ
  at = b * 2 ^ suc m + 2 ^ m

  -- from the depth
  between-at : between k (order_of k F) v ≡ at
  unfolding b at
  between-at = let e : suc m - 1 ≡ m = omega arith in rw (group_start-first k F v h (suc m) d, height-at k v h (suc m) d, e)

  at-trail : trail at ≡ m
  unfolding at
  at-trail = ap trail (odd-multiple b m) ∙ trail-join b m

  at_lt : at < 2 ^ k
  unfolding b at
  at_lt = omega (arith, first_fits k F v h (suc m) d, pow-succ' 2 m, pow_pos m)

  at_block : at / 2 ^ suc m ≡ b
  unfolding at
  at_block = block-only (suc m) at b (omega arith) (omega (arith, pow-succ' 2 m, pow_pos m))

  at-pos : 1 ≤ at
  unfolding at
  at-pos = omega (arith, pow_pos m)

  -- the fork is the lowest above it and the place before
  at-lowest : lowest_fork k at (in_place (order_of k F) at) ≡ v
  unfolding b reach
  at-lowest =
      let r : 2 * reach at ≡ 2 ^ suc m = sym (ap (λ x. 2 ^ suc x) (sym at-trail) ∙ pow-succ' 2 (trail at)) in
      sym (lowest-shift k at (in_place (order_of k F) at) at-pos at_lt)
      ∙ ap (λ x. (2 ^ k + in_place (order_of k F) at) / x) r
      ∙ node-up k F h (suc m) d.sum at at_lt
      ∙ ap (node (bit F) h) at_block
      ∙ node-place (bit F) h v d.low d.high

  -- the place between the sides of the fork above
  at_up : (g : ℕ) → h ≡ suc g → at / (4 * 2 ^ m) * (4 * 2 ^ m) + 2 * 2 ^ m ≡ place (bit F) g (v / 2) * 2 ^ suc (suc m) + 2 ^ suc m
  unfolding at b
  at_up g e =
      let c : ℕ = place (bit F) g (v / 2) in
      let two : 2 ^ suc (suc m) ≡ 4 * 2 ^ m = omega (arith, pow-succ' 2 (suc m), pow-succ' 2 m) in
      let up : at / 2 ^ suc (suc m) ≡ c = half-block b c m (ap (λ x. place (bit F) x v / 2) e ∙ place-half (bit F) g v) in
      rw (← two, up, pow-succ' 2 m) refl

-- ---- of an allowed order

-- the place p is between the sides of fork v
pub record Between (k : ℕ) (o : List ℕ) (p v : ℕ) : Type 0 where
  pub above : 1 ≤ v
  pub below : v < 2 ^ k
  pub here : between k o v ≡ p

module _ (k : ℕ) (o : List ℕ) (allowed : is_allowed k o ≡ true) where
  F : ℕ
  F = forks_of k o

  is : order_of k F ≡ o
  unfolding F
  is = (forks_of-gives k o allowed).given

  -- a place but the first is between the sides of the lowest fork above it and the place before
  pub lowest-between : (p : ℕ) → 1 ≤ p → p < 2 ^ k → Between k o p (lowest_fork k p (in_place o p))
  unfolding reach at b
  lowest-between p low high = rw is at (subst (λ x. Between k (order_of k F) p x) (sym lowest) found)
    where
      m : ℕ
      m = trail p

      h : ℕ
      h = k - 1 - m

      q : ℕ
      q = p / 2 ^ suc m

      v : ℕ
      v = node (bit F) h q

      sum : k ≡ h + suc m
      sum = omega (arith, trail-lt k p low high)

      d : AtDepth k v h (suc m)
      d = record { sum = sum; low = node-ge (bit F) h q; high = node-lt (bit F) h q }

      lowest : lowest_fork k p (in_place (order_of k F) p) ≡ v
      lowest =
          sym (lowest-shift k p (in_place (order_of k F) p) low high)
          ∙ ap (λ x. (2 ^ k + in_place (order_of k F) p) / x) (sym (pow-succ' 2 m))
          ∙ node-up k F h (suc m) sum p high

      place_is : place (bit F) h v ≡ q
      place_is = place-node (bit F) h q (shr_lt h (suc m) (rw (← sum) high))

      found : Between k (order_of k F) p v
      found = record {
        above = omega (arith, d.low, pow_pos h);
        below = omega (arith, d.high, pow_mono {i = suc h} {j = k} (omega (arith, sum)));
        here = between-at k F v h m d ∙ ap (λ x. x * 2 ^ suc m + 2 ^ m) place_is ∙ odd-multiple q m ∙ trail-split p low;
      }

  module _ (v : ℕ) (low : 1 ≤ v) (high : v < 2 ^ k) where
    m : ℕ
    m = height k v - 1

    h : ℕ
    h = k - height k v

    deep : AtDepth k v h (suc m)
    unfolding m h
    deep = fork-depth k v low high

    at-is : between k o v ≡ at k F v h m deep
    at-is = rw is at (between-at k F v h m deep)

    -- the place between a fork's sides is a place but the first,
    pub between-pos : 1 ≤ between k o v
    between-pos = omega (arith, at-is, at-pos k F v h m deep)

    pub between-lt : between k o v < 2 ^ k
    between-lt = omega (arith, at-is, at_lt k F v h m deep)

    -- has half the group for its reach,
    pub between-reach : reach (between k o v) ≡ half_size k v
    unfolding reach m
    between-reach = ap (λ x. 2 ^ x) (ap trail at-is ∙ at-trail k F v h m deep)

    -- and the fork is the lowest above it and the place before
    pub between-lowest : lowest_fork k (between k o v) (in_place o (between k o v)) ≡ v
    between-lowest = rw (at-is) (rw is at (at-lowest k F v h m deep))

    -- the place between the sides of the fork above
    pub between-up : 1 ≤ v / 2 → let r = half_size k v in between k o v / (4 * r) * (4 * r) + 2 * r ≡ between k o (v / 2)
    unfolding m at b
    between-up up = go h refl
      where
        go : (x : ℕ) → h ≡ x → between k o v / (4 * half_size k v) * (4 * half_size k v) + 2 * half_size k v ≡ between k o (v / 2)
        go zero e = absurd (omega (arith, rw e at deep.high))
        go (suc g) e =
            let d : AtDepth k (v / 2) g (suc (suc m)) = record {
              sum = omega (arith, deep.sum);
              low = omega (arith, rw e at deep.low, pow-succ' 2 g);
              high = omega (arith, rw e at deep.high, pow-succ' 2 (suc g));
            } in
            rw at-is (at_up k F v h m deep g e ∙ sym (rw is at (between-at k F (v / 2) g (suc m) d)))

    -- an exchange of the fork leaves it where it is
    pub between-kept : between k (exchange_fork k o v) v ≡ between k o v
    unfolding exchange F at b
    between-kept =
        between-at k (bit_xor F (2 ^ v)) v h m deep
        ∙ ap (λ x. x * 2 ^ suc m + 2 ^ m) (place-flip F v v h deep.low deep.low deep.high)
        ∙ sym at-is
