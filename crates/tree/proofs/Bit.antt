-- A set of numbers below n as one number: bit v is 1 exactly if v is in the set.
use mathlib.Core.Path.{◌≡◌, sym, ◌∙◌}
use Prim.Native.Nat.{ℕ, zero, suc, ◌+◌, ◌*◌, ◌/◌, ◌%◌, ◌^◌, ◌<◌}
use native.Mathlib.Nat.{pow-succ', pow-suc, pow-zero, div-one, div-div-eq-div-mul, mul-add-div_right}
use native.Mathlib.Omega.{arith}
use lib.Pow.{pow_pos, pow-add}
use Rattle.tree.specs.Fork.{bit}
use Rattle.tree.proofs.Beside.{shr-suc}

-- to halve a number t times, and then once more
pub shr-half : (a t : ℕ) → a / 2 ^ t / 2 ≡ a / 2 ^ suc t
shr-half a t = rw (pow-suc, div-div-eq-div-mul)

-- to halve a number d times whose bit e + d and none above is set
pub shr-add : (e d i : ℕ) → (2 ^ (e + d) + i) / 2 ^ d ≡ 2 ^ e + i / 2 ^ d
shr-add e d i = rw (pow-add, mul-add-div_right (pow_pos d) (2 ^ e) i)

-- the lowest bit, and the others
pub bit-zero : (x : ℕ) → bit x 0 ≡ x % 2
bit-zero x = rw (pow-zero, div-one)

-- and those above it
pub bit-suc : (x b : ℕ) → bit x (suc b) ≡ bit (x / 2) b
bit-suc x b = rw (shr-suc x b)

-- the number whose bit v, below n, is the last bit of f v
unfoldable pub num_of : (ℕ → ℕ) → ℕ → ℕ
num_of f zero = 0
num_of f (suc n) = f 0 % 2 + 2 * num_of (λ v. f (suc v)) n

-- its half
num_of-half : (f : ℕ → ℕ) (n : ℕ) → num_of f (suc n) / 2 ≡ num_of (λ v. f (suc v)) n
unfolding num_of
num_of-half f n = omega arith

-- and its last bit
num_of-odd : (f : ℕ → ℕ) (n : ℕ) → num_of f (suc n) % 2 ≡ f 0 % 2
unfolding num_of
num_of-odd f n = omega arith

-- its bits are the values
pub bit-num_of : (f : ℕ → ℕ) (n v : ℕ) → v < n → bit (num_of f n) v ≡ f v % 2
bit-num_of f zero v b = omega arith
bit-num_of f (suc n) zero b = bit-zero _ ∙ num_of-odd f n
bit-num_of f (suc n) (suc v) b = bit-suc _ v ∙ rw (num_of-half f n) (bit-num_of (λ w. f (suc w)) n v (omega arith))

-- it has n bits
pub num_of-lt : (f : ℕ → ℕ) (n : ℕ) → num_of f n < 2 ^ n
unfolding num_of
num_of-lt f zero = omega arith
num_of-lt f (suc n) = omega (arith, num_of-lt (λ w. f (suc w)) n, pow-succ' 2 n)

-- two numbers below 2^n are equal if their bits are
pub bit-ext : (n x y : ℕ) → x < 2 ^ n → y < 2 ^ n → ((v : ℕ) → v < n → bit x v ≡ bit y v) → x ≡ y
bit-ext zero x y a b s = omega arith
bit-ext (suc n) x y a b s =
    let p : 2 ^ suc n ≡ 2 * 2 ^ n = pow-succ' 2 n in
    let h : x / 2 ≡ y / 2
    = bit-ext n (x / 2) (y / 2) (omega arith) (omega arith) (λ v c. sym (bit-suc x v) ∙ s (suc v) (omega arith) ∙ bit-suc y v) in
    let z : bit x 0 ≡ bit y 0 = s 0 (omega arith) in
    omega (arith, bit-zero x, bit-zero y)
