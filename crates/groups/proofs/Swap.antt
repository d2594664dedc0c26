-- An exchange of fork v alone swaps the two halves of v's block. Above v nothing changes, so v's block stays; at v the bit that
-- chooses the side is inverted; below the sides nothing changes, nor below any other fork of v's depth.
use mathlib.Core.Path.{◌≡◌, sym, ap, ◌∙◌}
use mathlib.Core.List.{List}
use mathlib.Core.Logic.{◌≢◌, inl, inr}
use Prim.Native.Nat.{ℕ, zero, suc, ◌+◌, ◌*◌, ◌-◌, ◌/◌, ◌%◌, ◌^◌, ◌≤◌, ◌<◌}
use native.Mathlib.Nat.{pow-succ', div-one}
use native.Mathlib.Omega.{arith}
use lib.Bits.{bit_xor}
use lib.Pow.{pow_pos, shr_le}
use Rattle.tree.specs.Fork.{bit}
use Rattle.tree.specs.Order.{order_of}
use Rattle.tree.specs.Neighbour.{in_place}
use Rattle.tree.proofs.Beside.{shr-suc}
use Rattle.tree.proofs.Block.{block_of}
use Rattle.tree.proofs.Node.{node, place, place-lt, node-ge, node-same, node-place, place-node}
use Rattle.groups.specs.Swap.{Outside, BlocksSwapped}
use Rattle.groups.proofs.Xor.{bit-flip, bit-flip-other}
use Rattle.groups.proofs.Subtree.{sub, sub-zero, sub-suc, sub-sub, sub-flip, node-split}
use Rattle.groups.proofs.Height.{AtDepth}
use Rattle.groups.proofs.Start.{first, first_fits, node_in, node-up, in_block, below-block}

-- the two halves of the block of 2 half places from a on are swapped, and nothing else is changed
pub record Swapped (n a half : ℕ) (o o' : List ℕ) : Type 0 where
  pub fits : a + 2 * half ≤ n
  pub left : (x : ℕ) → x < half → in_place o' (a + x) ≡ in_place o (a + half + x)
  pub right : (x : ℕ) → x < half → in_place o' (a + half + x) ≡ in_place o (a + x)
  pub before : (p : ℕ) → p < a → in_place o' p ≡ in_place o p
  pub after : (p : ℕ) → a + 2 * half ≤ p → p < n → in_place o' p ≡ in_place o p

-- forks that do not lie below the depth of v are where they were
pub node-flip : (F v h p : ℕ) → 2 ^ h ≤ v → node (bit (bit_xor F (2 ^ v))) h p ≡ node (bit F) h p
node-flip F v h p l = node-same (bit (bit_xor F (2 ^ v))) (bit F) h (λ w a b. ap (λ z. z % 2) (bit-flip-other F v w (λ e. absurd (omega arith)))) p

pub place-flip : (F v u h : ℕ) → 2 ^ h ≤ v → 2 ^ h ≤ u → u < 2 ^ suc h → place (bit (bit_xor F (2 ^ v))) h u ≡ place (bit F) h u
place-flip F v u h l a b =
    let g : ℕ → ℕ = bit (bit_xor F (2 ^ v)) in
    let c : ℕ = place g h u in
    let n : node (bit F) h c ≡ u = sym (node-flip F v h c l) ∙ node-place g h u a b in
    sym (place-node (bit F) h c (place-lt g h u)) ∙ ap (place (bit F) h) n

-- one depth below v
side-one : (f : ℕ → ℕ) (v c : ℕ) → c < 2 → sub f v 1 c ≡ 2 * v + (c + f v) % 2
side-one f v c l =
    let e : sub f v 0 (c / 2) ≡ v = sub-zero f v (c / 2) in
    let i : c % 2 ≡ c = omega arith in
    sub-suc f v 0 c ∙ rw (e, i)

module _ (k F v h m : ℕ) (d : AtDepth k v h (suc m)) where
  G : ℕ
  G = bit_xor F (2 ^ v)

  -- v is not below its own sides
  away : (c j : ℕ) → v / 2 ^ j ≢ 2 * v + c
  away c j e = absurd (omega (arith, shr_le v j, d.low, pow_pos h))

  -- what is below v on side c of the places is what was on the other
  below_flip : (c x : ℕ) → c < 2 → x < 2 ^ m → sub (bit G) v (suc m) (c * 2 ^ m + x) ≡ sub (bit F) v (suc m) ((1 - c) * 2 ^ m + x)
  unfolding G
  below_flip c x l b =
      let s : sub (bit G) v 1 c ≡ 2 * v + (c + bit G v) % 2 = side-one (bit G) v c l in
      let s' : sub (bit F) v 1 (1 - c) ≡ 2 * v + (1 - c + bit F v) % 2 = side-one (bit F) v (1 - c) (omega arith) in
      let q : sub (bit G) v 1 c ≡ 2 * v + (1 - c + bit F v) % 2 = omega (arith, bit-flip F v) in
      sub-sub (bit G) v 1 m (suc m) c x (omega arith) b ∙ rw q (sub-flip F v _ m (λ j _. away _ j) x)
      ∙ ap (λ w. sub (bit F) w m x) (sym s') ∙ sym (sub-sub (bit F) v 1 m (suc m) (1 - c) x (omega arith) b)

  a : ℕ
  a = first F v h (suc m)

  -- v's block in both orders
  same_first : first G v h (suc m) ≡ a
  unfolding G a
  same_first = ap (λ b. b * 2 ^ suc m) (place-flip F v v h d.low d.low d.high)

  -- the halves
  half-flip : (c x : ℕ) → c < 2 → x < 2 ^ m → in_place (order_of k G) (a + (c * 2 ^ m + x)) ≡ in_place (order_of k F) (a + ((1 - c) * 2 ^ m + x))
  unfolding a
  half-flip c x l b =
      let i : c * 2 ^ m + x < 2 ^ suc m = in-half c l in
      let i' : (1 - c) * 2 ^ m + x < 2 ^ suc m = in-half (1 - c) (omega arith) in
      let g : 2 ^ k + in_place (order_of k G) (a + (c * 2 ^ m + x)) ≡ sub (bit G) v (suc m) (c * 2 ^ m + x)
      = rw (same_first) at (in_block k G v h (suc m) d (c * 2 ^ m + x) i) in
      omega (arith, in_block k F v h (suc m) d ((1 - c) * 2 ^ m + x) i', below_flip c x l b)
    where
      in-half : (c : ℕ) → c < 2 → c * 2 ^ m + x < 2 ^ suc m
      in-half zero l = omega (arith, pow-succ' 2 m)
      in-half (suc zero) l = omega (arith, pow-succ' 2 m)
      in-half (suc (suc c)) l = absurd (omega arith)

  -- the places outside the block
  other-flip : (p : ℕ) → p < 2 ^ k → p / 2 ^ suc m ≢ place (bit F) h v → in_place (order_of k G) p ≡ in_place (order_of k F) p
  unfolding G
  other-flip p b n =
      let w : ℕ = node (bit F) h (p / 2 ^ suc m) in
      let e : node (bit G) k p ≡ sub (bit G) w (suc m) (p % 2 ^ suc m)
      = node-split (bit G) h (suc m) k d.sum p ∙ rw (node-flip F v h (p / 2 ^ suc m) d.low) in
      let s : sub (bit G) w (suc m) (p % 2 ^ suc m) ≡ sub (bit F) w (suc m) (p % 2 ^ suc m) = sub-flip F v w (suc m) (λ j _. apart j) (p % 2 ^ suc m) in
      omega (arith, node_in k F p b, node_in k G p b, node-split (bit F) h (suc m) k d.sum p)
    where
      apart : (j : ℕ) → v / 2 ^ j ≢ node (bit F) h (p / 2 ^ suc m)
      apart zero e = n ((below-block k F v h (suc m) d p b).0 (node-up k F h (suc m) d.sum p b ∙ sym e ∙ div-one v))
      apart (suc j) e = absurd (omega (arith, shr-suc v j, shr_le (v / 2) j, d.high, pow-succ' 2 h, node-ge (bit F) h (p / 2 ^ suc m)))

  -- the exchange in places
  pub flip-swaps : Swapped (2 ^ k) (first F v h (suc m)) (2 ^ m) (order_of k F) (order_of k (bit_xor F (2 ^ v)))
  unfolding G a
  flip-swaps = record { fits = omega (arith, first_fits k F v h (suc m) d, pow-succ' 2 m); left = left'; right = right'; before = before'; after = after' }
    where
      left' : (x : ℕ) → x < 2 ^ m → in_place (order_of k G) (a + x) ≡ in_place (order_of k F) (a + 2 ^ m + x)
      left' x l =
          let i : a + (0 * 2 ^ m + x) ≡ a + x = omega arith in
          let j : a + ((1 - 0) * 2 ^ m + x) ≡ a + 2 ^ m + x = omega arith in
          rw (i, j) at (half-flip 0 x (omega arith) l)

      right' : (x : ℕ) → x < 2 ^ m → in_place (order_of k G) (a + 2 ^ m + x) ≡ in_place (order_of k F) (a + x)
      right' x l =
          let i : a + (1 * 2 ^ m + x) ≡ a + 2 ^ m + x = omega arith in
          let j : a + ((1 - 1) * 2 ^ m + x) ≡ a + x = omega arith in
          rw (i, j) at (half-flip 1 x (omega arith) l)

      before' : (p : ℕ) → p < a → in_place (order_of k G) p ≡ in_place (order_of k F) p
      before' p l = other-flip p (omega (arith, first_fits k F v h (suc m) d))
          (λ e. absurd (omega (arith, (block_of (suc m) p).0, ap (λ b. b * 2 ^ suc m) e)))

      after' : (p : ℕ) → a + 2 * 2 ^ m ≤ p → p < 2 ^ k → in_place (order_of k G) p ≡ in_place (order_of k F) p
      after' p l b = other-flip p b
          (λ e. absurd (omega (arith, (block_of (suc m) p).1, ap (λ b. b * 2 ^ suc m) e, pow-succ' 2 m)))

-- swapped halves are swapped blocks
pub halves-swapped : (n a half : ℕ) (o o' : List ℕ) → Swapped n a half o o' → BlocksSwapped n a (a + half) half o o'
halves-swapped n a half o o' s = record { first = s.left; second = s.right; others = others' }
  where
    others' : (p : ℕ) → p < n → Outside a half p → Outside (a + half) half p → in_place o' p ≡ in_place o p
    others' p b (inl x) y = s.before p x
    others' p b (inr x) (inl y) = absurd (omega arith)
    others' p b (inr x) (inr y) = s.after p (omega arith) b

-- either block may be named first
pub swapped-either : (n a b size : ℕ) (o o' : List ℕ) → BlocksSwapped n a b size o o' → BlocksSwapped n b a size o o'
swapped-either n a b size o o' s = record { first = s.second; second = s.first; others = λ p l x y. s.others p l y x }
