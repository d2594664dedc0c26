-- What is below a fork depends on the forks there alone. `sub f u m x` is the fork or stop m depths below u to which the bits of x lead,
-- one depth at a time, by the lowest bit; the whole tree is what is below fork 1. A way down in two parts is one way (`sub-sub`), so a
-- block of places that a fork fills lists what is below it, wherever the block stands.
use mathlib.Core.Path.{◌≡◌, refl, sym, ap, ◌∙◌}
use mathlib.Core.Logic.{◌≢◌}
use Prim.Native.Nat.{ℕ, zero, suc, ◌+◌, ◌*◌, ◌/◌, ◌%◌, ◌^◌, ◌<◌}
use native.Mathlib.Nat.{pow-succ', div-one, div-add-mod', mod-lt}
use native.Mathlib.Omega.{arith}
use lib.Bits.{bit_xor, block_half, block_odd}
use lib.Pow.{pow_pos}
use Rattle.tree.specs.Fork.{bit}
use Rattle.tree.proofs.Beside.{shr-suc}
use Rattle.tree.proofs.Node.{node, node-zero, node-suc}
use Rattle.groups.proofs.Xor.{bit-flip-other}

-- m depths below u, by the bits of x
unfoldable pub sub : (ℕ → ℕ) → ℕ → ℕ → ℕ → ℕ
sub f u zero x = u
sub f u (suc m) x = let w = sub f u m (x / 2) in 2 * w + (x % 2 + f w) % 2

module _ (f : ℕ → ℕ) (u : ℕ) where
  -- no depth below u is u
  pub sub-zero : (x : ℕ) → sub f u 0 x ≡ u
  unfolding sub
  sub-zero x = refl

  -- one depth more
  pub sub-suc : (m x : ℕ) → sub f u (suc m) x ≡ 2 * sub f u m (x / 2) + (x % 2 + f (sub f u m (x / 2))) % 2
  unfolding sub
  sub-suc m x = refl

  -- u is m depths above
  pub sub-up : (m x : ℕ) → sub f u m x / 2 ^ m ≡ u
  sub-up zero x = rw (div-one (sub f u 0 x)) (sub-zero x)
  sub-up (suc m) x =
      let h : sub f u (suc m) x / 2 ≡ sub f u m (x / 2) = omega (arith, sub-suc m x) in
      rw (shr-suc (sub f u (suc m) x) m, h) (sub-up m (x / 2))

  -- a way down in two parts
  pub sub-sub : (h m n b x : ℕ) → n ≡ h + m → x < 2 ^ m → sub f u n (b * 2 ^ m + x) ≡ sub f (sub f u h b) m x
  unfolding sub
  sub-sub h zero n b x e l =
      let i : b * 2 ^ 0 + x ≡ b = omega arith in
      let j : n ≡ h = omega arith in
      rw (i, j)
  sub-sub h (suc m) n b x e l =
      let q : n ≡ suc (h + m) = omega arith in
      let ih : sub f u (h + m) (b * 2 ^ m + x / 2) ≡ sub f (sub f u h b) m (x / 2) = sub-sub h m (h + m) b (x / 2) refl (omega (arith, pow-succ' 2 m)) in
      rw (q, block_half b m x, block_odd b m x, ih)

-- the tree is what is below fork 1
pub node-sub : (f : ℕ → ℕ) (h p : ℕ) → node f h p ≡ sub f 1 h p
node-sub f zero p = node-zero f p ∙ sym (sub-zero f 1 p)
node-sub f (suc h) p = node-suc f h p ∙ rw (node-sub f h (p / 2)) (sym (sub-suc f 1 h p))

module _ (f : ℕ → ℕ) (h m k : ℕ) (e : k ≡ h + m) where
  -- an aligned block of 2^m places lists what is below the fork in its place at depth h
  pub node_block : (b x : ℕ) → x < 2 ^ m → node f k (b * 2 ^ m + x) ≡ sub f (node f h b) m x
  node_block b x l = node-sub f k (b * 2 ^ m + x) ∙ sub-sub f 1 h m k b x e l ∙ rw (node-sub f h b)

  -- so each place does, by its quotient and remainder
  pub node-split : (p : ℕ) → node f k p ≡ sub f (node f h (p / 2 ^ m)) m (p % 2 ^ m)
  node-split p = ap (node f k) (sym (div-add-mod' p (2 ^ m))) ∙ node_block (p / 2 ^ m) (p % 2 ^ m) (mod-lt p (pow_pos m))

-- what is below u is decided by the forks there
pub sub_same : (f g : ℕ → ℕ) (u m : ℕ) → ((j w : ℕ) → j < m → w / 2 ^ j ≡ u → f w % 2 ≡ g w % 2) → (x : ℕ) → sub f u m x ≡ sub g u m x
sub_same f g u zero s x = sub-zero f u x ∙ sym (sub-zero g u x)
sub_same f g u (suc m) s x =
    let w : ℕ = sub g u m (x / 2) in
    let e : sub f u m (x / 2) ≡ w = sub_same f g u m (λ j w l. s j w (omega arith)) (x / 2) in
    let d : sub f u (suc m) x ≡ 2 * w + (x % 2 + f w) % 2 = rw (← e) (sub-suc f u m x) in
    let i : f w % 2 ≡ g w % 2 = s m w (omega arith) (sub-up g u m (x / 2)) in
    omega (arith, sub-suc g u m x)

-- so an exchange of a fork that is not there changes nothing
pub sub-flip : (F v u m : ℕ) → ((j : ℕ) → j < m → v / 2 ^ j ≢ u) → (x : ℕ) → sub (bit (bit_xor F (2 ^ v))) u m x ≡ sub (bit F) u m x
sub-flip F v u m away = sub_same (bit (bit_xor F (2 ^ v))) (bit F) u m same
  where
    same : (j w : ℕ) → j < m → w / 2 ^ j ≡ u → bit (bit_xor F (2 ^ v)) w % 2 ≡ bit F w % 2
    same j w l e = ap (λ z. z % 2) (bit-flip-other F v w (λ i. away j l (ap (λ z. z / 2 ^ j) (sym i) ∙ e)))
