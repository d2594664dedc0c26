-- The exclusive or of two sets, fork by fork: bit v of it is 1 exactly if v is in one of the two.
use mathlib.Core.Path.{◌≡◌, refl, ap, ◌∙◌}
use mathlib.Core.Logic.{◌≢◌}
use Prim.Native.Nat.{ℕ, zero, suc, ◌+◌, ◌-◌, ◌/◌, ◌%◌, ◌^◌, ◌<◌}
use native.Mathlib.Omega.{arith}
use lib.Bits.{bit_xor, differ, xor_step, xor_shr}
use Rattle.tree.specs.Fork.{bit}
use Rattle.orders.proofs.Bits.{bit-pow, bit-pow-other}

-- two digits differ exactly if their sum is odd
differ-odd : (x y : ℕ) → x < 2 → y < 2 → differ x y ≡ (x + y) % 2
differ-odd zero zero a b = refl
differ-odd zero (suc zero) a b = refl
differ-odd zero (suc (suc y)) a b = absurd (omega arith)
differ-odd (suc zero) zero a b = refl
differ-odd (suc zero) (suc zero) a b = refl
differ-odd (suc zero) (suc (suc y)) a b = absurd (omega arith)
differ-odd (suc (suc x)) y a b = absurd (omega arith)

-- the bits of an exclusive or
pub bit-xor : (x y b : ℕ) → bit (bit_xor x y) b ≡ (bit x b + bit y b) % 2
bit-xor x y b =
    let X : ℕ = x / 2 ^ b in
    let Y : ℕ = y / 2 ^ b in
    let s : bit_xor X Y % 2 ≡ (X % 2 + Y % 2) % 2
    = omega (arith, xor_step X Y, differ-odd (X % 2) (Y % 2) (omega arith) (omega arith)) in
    ap (λ z. z % 2) (xor_shr x y b) ∙ s

-- one fork alone: its bit is inverted
pub bit-flip : (x v : ℕ) → bit (bit_xor x (2 ^ v)) v ≡ 1 - bit x v
bit-flip x v = omega (arith, bit-xor x (2 ^ v) v, bit-pow v)

-- and no other
pub bit-flip-other : (x v w : ℕ) → w ≢ v → bit (bit_xor x (2 ^ v)) w ≡ bit x w
bit-flip-other x v w h = omega (arith, bit-xor x (2 ^ v) w, bit-pow-other v w h)
