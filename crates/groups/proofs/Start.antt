-- The group of a fork v in the order of a set F fills an aligned block: m depths above the stop in place p stands the fork in place
-- p / 2^m of its depth, and v has one place there.
use mathlib.Core.Path.{◌≡◌, refl, sym, ap, ◌∙◌}
use mathlib.Core.Bool.{Bool, true, false}
use mathlib.Core.Logic.{◌↔◌}
use Prim.Native.Nat.{ℕ, zero, suc, ◌+◌, ◌*◌, ◌-◌, ◌/◌, ◌%◌, ◌^◌, ◌≤◌, ◌<◌}
use native.Mathlib.Nat.{pow-succ', mul-le-mul_right}
use native.Mathlib.Omega.{arith}
use lib.Pow.{pow_pos, pow-add, shl-shr, shr_lt}
use borrow.Author.Tests.{eq-eqb, eqb-true}
use Rattle.tree.specs.Fork.{bit, side, fork_above}
use Rattle.tree.specs.Order.{order_of}
use Rattle.tree.specs.Neighbour.{in_place}
use Rattle.tree.proofs.Bit.{shr-add}
use Rattle.tree.proofs.Block.{block_of, block-only}
use Rattle.tree.proofs.Link.{stop_in-stop, get_or-order_of}
use Rattle.tree.proofs.Node.{node, place, place-lt, place-suc, node-place, place-node}
use Rattle.tree.proofs.Seven.{stop-node}
use Rattle.orders.proofs.Marks.{node-shr}
use Rattle.groups.specs.Group.{height, first_in, in_group, group_start}
use Rattle.groups.proofs.Subtree.{sub, node_block}
use Rattle.groups.proofs.Height.{AtDepth, height-at}

-- the first place at which a test holds
pub first_in-is : (f : ℕ → Bool) (c p : ℕ) → p < c → f p ≡ true → ((q : ℕ) → q < p → f q ≡ false) → first_in f c ≡ p
unfolding first_in
first_in-is f zero p l e n = absurd (omega arith)
first_in-is f (suc c) zero l e n = rw e
first_in-is f (suc c) (suc p) l e n =
    rw (n 0 (omega arith)) (ap suc (first_in-is (λ q. f (suc q)) c p (omega arith) e (λ q b. n (suc q) (omega arith))))

-- the stop in place p, with 2^k added
pub node_in : (k F p : ℕ) → p < 2 ^ k → 2 ^ k + in_place (order_of k F) p ≡ node (bit F) k p
node_in k F p b = rw (get_or-order_of k F p b, stop_in-stop k F p) (stop-node (bit F) k p)

-- m depths above it
pub node-up : (k F h m : ℕ) → k ≡ h + m → (p : ℕ) → p < 2 ^ k → (2 ^ k + in_place (order_of k F) p) / 2 ^ m ≡ node (bit F) h (p / 2 ^ m)
node-up k F h m e p b = rw (node_in k F p b) (ap (λ x. node (bit F) x p / 2 ^ m) e ∙ node-shr (bit F) h m p)

-- the fork above stop i at the depth of v
pub above-up : (k v h m i : ℕ) → AtDepth k v h m → fork_above k i (k - height k v) ≡ (2 ^ k + i) / 2 ^ m
above-up k v h m i d =
    let e : k - m ≡ h = omega (arith, d.sum) in
    let f : k - h ≡ m = omega (arith, d.sum) in
    rw (height-at k v h m d, e, f) (sym (ap (λ x. (2 ^ x + i) / 2 ^ m) d.sum ∙ shr-add h m i))

-- the first place of the block of v at depth h, 2^m places, in the order of F
abbrev pub first : ℕ → ℕ → ℕ → ℕ → ℕ
first F v h m = place (bit F) h v * 2 ^ m

-- the blocks of a fork's sides are the halves of its block
pub first-side : (F v h m s : ℕ) → s < 2 → first F (side v s) (suc h) m ≡ first F v h (suc m) + (s + bit F v) % 2 * 2 ^ m
first-side F v h m s l =
    let i : (2 * v + s) / 2 ≡ v = omega arith in
    let j : (2 * v + s) % 2 ≡ s = omega arith in
    let b : ℕ = place (bit F) h v in
    let p : place (bit F) (suc h) (2 * v + s) ≡ 2 * b + (s + bit F v) % 2 = place-suc (bit F) h (2 * v + s) ∙ rw (i, j) in
    let q : b * 2 ^ suc m ≡ b * (2 * 2 ^ m) = ap (λ x. b * x) (pow-succ' 2 m) in
    rw p (omega arith)

module _ (k F v h m : ℕ) (d : AtDepth k v h m) where
  -- the block ends where the order does or before
  pub first_fits : first F v h m + 2 ^ m ≤ 2 ^ k
  first_fits =
      let e : 2 ^ k ≡ 2 ^ h * 2 ^ m = ap (λ x. 2 ^ x) d.sum ∙ pow-add 2 h m in
      let l : suc (place (bit F) h v) * 2 ^ m ≤ 2 ^ h * 2 ^ m = mul-le-mul_right (2 ^ m) (place-lt (bit F) h v) in
      omega arith

  -- its places list what is below v
  pub in_block : (x : ℕ) → x < 2 ^ m → 2 ^ k + in_place (order_of k F) (first F v h m + x) ≡ sub (bit F) v m x
  in_block x l =
      node_in k F (place (bit F) h v * 2 ^ m + x) (omega (arith, first_fits))
      ∙ node_block (bit F) h m k d.sum (place (bit F) h v) x l ∙ rw (node-place (bit F) h v d.low d.high)

  -- a stop is in the group of v exactly if its place is in the block
  pub below-block : (p : ℕ) → p < 2 ^ k → ((2 ^ k + in_place (order_of k F) p) / 2 ^ m ≡ v) ↔ (p / 2 ^ m ≡ place (bit F) h v)
  below-block p b = (
    λ e. sym (place-node (bit F) h (p / 2 ^ m) (shr_lt h m (rw (← d.sum) b))) ∙ ap (place (bit F) h) (sym up ∙ e),
    λ e. up ∙ rw e (node-place (bit F) h v d.low d.high),
  )
    where
      up : (2 ^ k + in_place (order_of k F) p) / 2 ^ m ≡ node (bit F) h (p / 2 ^ m)
      up = node-up k F h m d.sum p b

  -- by the definition's test, either way
  within_group : (p : ℕ) → p < 2 ^ k → p / 2 ^ m ≡ place (bit F) h v → in_group k v (in_place (order_of k F) p) ≡ true
  within_group p b e = eq-eqb _ _ (above-up k v h m (in_place (order_of k F) p) d ∙ (below-block p b).1 e)

  group-in : (p : ℕ) → p < 2 ^ k → in_group k v (in_place (order_of k F) p) ≡ true → p / 2 ^ m ≡ place (bit F) h v
  group-in p b e = (below-block p b).0 (sym (above-up k v h m (in_place (order_of k F) p) d) ∙ eqb-true _ _ e)

  -- so the group's places are the block
  pub group-block : (p : ℕ) → p < 2 ^ k → (in_group k v (in_place (order_of k F) p) ≡ true) ↔ ((first F v h m ≤ p) × (p < first F v h m + 2 ^ m))
  group-block p b = (λ e. rw (← group-in p b e) (block_of m p), λ e. within_group p b (block-only m p (place (bit F) h v) e.0 e.1))

  -- the first place of the group by the definition
  pub group_start-first : group_start k (order_of k F) v ≡ first F v h m
  unfolding group_start
  group_start-first = first_in-is (λ p. in_group k v (in_place (order_of k F) p)) (2 ^ k) a (omega (arith, first_fits, pow_pos m)) here before
    where
      a : ℕ
      a = first F v h m

      here : in_group k v (in_place (order_of k F) a) ≡ true
      here = within_group a (omega (arith, first_fits, pow_pos m)) (shl-shr (place (bit F) h v) m)

      before : (q : ℕ) → q < a → in_group k v (in_place (order_of k F) q) ≡ false
      before q l = go (in_group k v (in_place (order_of k F) q)) refl
        where
          go : (t : Bool) → in_group k v (in_place (order_of k F) q) ≡ t → in_group k v (in_place (order_of k F) q) ≡ false
          go true e = absurd (omega (arith, ((group-block q (omega (arith, first_fits))).0 e).0))
          go false e = e
