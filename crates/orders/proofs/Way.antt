-- The way down from the root by the bits of a string.
use mathlib.Core.Path.{◌≡◌, sym, ap, ◌∙◌}
use mathlib.Core.Bool.{true}
use mathlib.Core.List.{List}
use Prim.Native.Nat.{ℕ, zero, suc, ◌+◌, ◌*◌, ◌-◌, ◌/◌, ◌%◌, ◌^◌, ◌≤◌, ◌<◌}
use native.Mathlib.Nat.{pow-succ'}
use native.Mathlib.Omega.{arith}
use lib.ListN.{length, take}
use lib.Pow.{pow_mono}
use lib.Seq.{get_or-take, length-take-le}
use Rattle.records.specs.Field.{are_bytes}
use Rattle.tree.specs.Fork.{bit, side}
use Rattle.tree.specs.Order.{down}
use Rattle.orders.specs.Bits.{byte_count, set_of_bits, string_bit}
use Rattle.orders.proofs.Bits.{bit-number}

-- a fork's bit in the first bytes of a list
pub fork-bit : (k : ℕ) (s : List ℕ) → are_bytes (take (byte_count (2 ^ k)) s) ≡ true → byte_count (2 ^ k) ≤ length s → (v : ℕ) → v < 2 ^ k
    → string_bit s v ≡ bit (set_of_bits (take (byte_count (2 ^ k)) s)) v
fork-bit k s bytes fits v b =
    let m : ℕ = byte_count (2 ^ k) in
    let l : length (take m s) ≡ m = length-take-le m s fits in
    let same : string_bit (take m s) v ≡ string_bit s v = rw (get_or-take m s (v / 8) 0 (omega arith)) in
    sym (bit-number (take m s) bytes v ∙ same)

-- d depths above the stops of a tree of 2^k: the fork v that the bits of place p lead to, and the rest of the way
pub record Way (k F p d v : ℕ) : Type 0 where
  pub above : d ≤ k
  pub low : 2 ^ (k - d) ≤ v
  pub high : v < 2 * 2 ^ (k - d)
  pub rest : down F p d v ≡ down F p k 1

-- a fork above the stops is a fork of the tree
pub way-fork : (k F p d v : ℕ) → 1 ≤ d → Way k F p d v → v < 2 ^ k
way-fork k F p d v h w =
    let e : 2 ^ suc (k - d) ≡ 2 * 2 ^ (k - d) = pow-succ' 2 (k - d) in
    let l : 2 ^ suc (k - d) ≤ 2 ^ k = pow_mono {i = suc (k - d)} {j = k} (omega (arith, w.above)) in
    omega (arith, w.high)

-- one depth down
pub way_down : (k F p d v u : ℕ) → 1 ≤ d → Way k F p d v → u ≡ side v ((bit p (d - 1) + bit F v) % 2) → Way k F p (d - 1) u
way_down k F p zero v u h w e = absurd (omega arith)
way_down k F p (suc d) v u h w e =
    let one : suc d - 1 ≡ d = omega arith in
    let s : u ≡ side v ((bit p d + bit F v) % 2) = rw one at e in
    let step : 2 ^ (k - d) ≡ 2 * 2 ^ (k - suc d)
    = ap (λ x. 2 ^ x) (let i : k - d ≡ suc (k - suc d) = omega (arith, w.above) in i) ∙ pow-succ' 2 (k - suc d) in
    rw one
    (record {
      above = omega (arith, w.above);
      low = omega (arith, w.low);
      high = omega (arith, w.high);
      rest = rw s w.rest;
    })
