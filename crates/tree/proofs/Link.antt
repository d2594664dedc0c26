-- The orders as the text defines them (Order.antt) are those of Node.antt.
use mathlib.Core.Path.{◌≡◌, ap, ◌∙◌}
use Prim.Native.Nat.{ℕ, zero, suc, ◌+◌, ◌*◌, ◌-◌, ◌/◌, ◌%◌, ◌^◌, ◌<◌}
use native.Mathlib.Nat.{pow-succ', pow-zero, div-one, add-zero, add-suc, suc-add, zero-add, add-mul, mul_assoc, mul_comm, add_assoc}
use native.Mathlib.Omega.{arith}
use lib.ListN.{length, get_or}
use Rattle.base.proofs.Lists.{length-tabulate, get_or-tabulate}
use Rattle.tree.specs.Fork.{bit, fork_above}
use Rattle.tree.specs.Order.{place_bit, place_bits, place_of, down, stop_in, order_of}
use Rattle.tree.proofs.Node.{node, place, node-zero, node-suc, place-zero, place-suc, place-half}
use Rattle.tree.proofs.Bit.{shr-half, shr-add}
use Rattle.tree.proofs.Seven.{stop, stop-node}

-- to go down from the root by the bits of p, highest first, is to come to the fork in place p
down-node : (F p d h : ℕ) → down F p d (node (bit F) h (p / 2 ^ d)) ≡ node (bit F) (h + d) p
down-node F p zero h = rw (pow-zero, div-one, add-zero)
down-node F p (suc d) h =
    let e : node (bit F) (suc h) (p / 2 ^ d) ≡ 2 * node (bit F) h (p / 2 ^ suc d) + (bit p d + bit F (node (bit F) h (p / 2 ^ suc d))) % 2
    = node-suc (bit F) h (p / 2 ^ d) ∙ rw (shr-half p d) in
    rw (← e) (down-node F p d (suc h) ∙ rw (add-suc h d, suc-add h d))

-- the stop in place p
pub stop_in-stop : (k F p : ℕ) → stop_in k F p ≡ stop (bit F) k p
stop_in-stop k F p =
    let e : down F p k 1 ≡ node (bit F) k p = rw (← node-zero (bit F) (p / 2 ^ k)) (down-node F p k 0 ∙ rw (zero-add k)) in
    omega (arith, stop-node (bit F) k p)

-- one more bit of a sum of bits
regroup : (P R D Q E : ℕ) → E ≡ 2 * D → (2 * P + R) * D + Q ≡ P * E + (R * D + Q)
regroup P R D Q E h = rw (h, add-mul (2 * P) R D, ← mul_assoc P 2 D, mul_comm P 2) (add_assoc (2 * P * D) (R * D) Q)

-- a place is made of its bits, the lowest d of them from the forks of the lowest d depths
place-from : (F i d e k : ℕ) → k ≡ e + d → place (bit F) k (2 ^ k + i) ≡ place (bit F) e ((2 ^ k + i) / 2 ^ d) * 2 ^ d + place_bits k F i d
place-from F i zero e k q =
    let u : k ≡ e = omega arith in
    rw (u, div-one) (omega arith)
place-from F i (suc d) e k q =
    let w : ℕ = 2 ^ k + i in
    let ih : place (bit F) k w ≡ place (bit F) (suc e) (w / 2 ^ d) * 2 ^ d + place_bits k F i d = place-from F i d (suc e) k (omega arith) in
    let a : w / 2 ^ d ≡ 2 ^ suc e + i / 2 ^ d = let j : k ≡ suc e + d = omega arith in rw j (shr-add (suc e) d i) in
    let b : w / 2 ^ suc d ≡ 2 ^ e + i / 2 ^ suc d = rw q (shr-add e (suc d) i) in
    let c : w / 2 ^ d % 2 ≡ bit i d = omega (arith, pow-succ' 2 e) in
    let h : k - suc d ≡ e = omega arith in
    let l : k - 1 - e ≡ d = omega arith in
    let m : k - e ≡ suc d = omega arith in
    let r : place_bit k F i (k - suc d) ≡ (bit i d + bit F (2 ^ e + i / 2 ^ suc d)) % 2 = rw (h, l, m) in
    let st : place (bit F) (suc e) (w / 2 ^ d) ≡ 2 * place (bit F) e (w / 2 ^ suc d) + place_bit k F i (k - suc d)
    = place-suc (bit F) e (w / 2 ^ d) ∙ rw (shr-half w d, c, b, r) in
    ih ∙ rw st (regroup _ _ _ _ _ (pow-succ' 2 d))

-- the place that the text gives stop i
pub place_of-place : (k F i : ℕ) → place_of k F i ≡ place (bit F) k (2 ^ k + i)
place_of-place k F i =
    let e : place (bit F) k (2 ^ k + i) ≡ 0 * 2 ^ k + place_bits k F i k
    = rw (← place-zero (bit F) ((2 ^ k + i) / 2 ^ k)) (place-from F i k 0 k (omega arith)) in
    omega arith

-- to leave out the lowest d bits of a place is to leave out the lowest d depths
place-shr : (f : ℕ → ℕ) (e d w : ℕ) → place f (e + d) w / 2 ^ d ≡ place f e (w / 2 ^ d)
place-shr f e zero w = rw (add-zero e, div-one w, div-one (place f e w))
place-shr f e (suc d) w =
    let h : e + suc d ≡ suc e + d = omega arith in
    rw (h, ← shr-half (place f (suc e + d) w) d, place-shr f (suc e) d w, place-half f e (w / 2 ^ d), shr-half w d)

-- bit k - 1 - h of the place of stop i is that bit of i, inverted exactly if its fork at depth h is exchanged
pub place_of-bit : (k F i h : ℕ) → h < k → bit (place_of k F i) (k - 1 - h) ≡ (bit i (k - 1 - h) + bit F (fork_above k i h)) % 2
place_of-bit k F i h b =
    let d : ℕ = k - 1 - h in
    let w : ℕ = 2 ^ k + i in
    let e : k ≡ suc h + d = omega arith in
    let e' : k ≡ h + suc d = omega arith in
    let m : k - h ≡ suc d = omega arith in
    let x : w / 2 ^ d ≡ 2 ^ suc h + i / 2 ^ d = ap (λ j. (2 ^ j + i) / 2 ^ d) e ∙ shr-add (suc h) d i in
    let y : w / 2 ^ suc d ≡ 2 ^ h + i / 2 ^ suc d = ap (λ j. (2 ^ j + i) / 2 ^ suc d) e' ∙ shr-add h (suc d) i in
    let c : w / 2 ^ d % 2 ≡ bit i d = omega (arith, pow-succ' 2 h) in
    let s : place (bit F) k w / 2 ^ d ≡ place (bit F) (suc h) (w / 2 ^ d) = ap (λ j. place (bit F) j w / 2 ^ d) e ∙ place-shr (bit F) (suc h) d w in
    let r : place (bit F) (suc h) (w / 2 ^ d) ≡ 2 * place (bit F) h (w / 2 ^ suc d) + (bit i d + bit F (2 ^ h + i / 2 ^ suc d)) % 2
    = place-suc (bit F) h (w / 2 ^ d) ∙ rw (shr-half w d, c, y) in
    rw (place_of-place k F i, m, s, r) (omega arith)

-- an order has 2^k stops
pub length-order_of : (k F : ℕ) → length (order_of k F) ≡ 2 ^ k
length-order_of k F = length-tabulate (2 ^ k) (stop_in k F)

-- an order lists the stop in each place
pub get_or-order_of : (k F p : ℕ) → p < 2 ^ k → get_or (order_of k F) p 0 ≡ stop_in k F p
get_or-order_of k F p b = get_or-tabulate (2 ^ k) (stop_in k F) p 0 b
