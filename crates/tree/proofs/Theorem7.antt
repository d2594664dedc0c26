-- What is proved of the orders, for every k: places and stops are one to one, Theorem 7 both ways, sets of forks and orders one to one.
use mathlib.Core.Path.{◌≡◌, sym, ap, ◌∙◌}
use mathlib.Core.List.{List}
use mathlib.Core.Logic.{◌↔◌}
use Prim.Native.Nat.{ℕ, zero, suc, ◌+◌, ◌*◌, ◌-◌, ◌/◌, ◌%◌, ◌^◌, ◌≤◌, ◌<◌}
use native.Mathlib.Nat.{pow-succ'}
use native.Mathlib.Numerals.{add-one}
use native.Mathlib.Omega.{arith}
use lib.ListN.{length, get_or}
use lib.Seq.{ext_get_or}
use lib.Pow.{pow_pos}
use lib.Bits.{bit_xor}
use Rattle.tree.specs.Fork.{bit}
use Rattle.tree.specs.Order.{place_of, stop_in, order_of, Allowed}
use Rattle.tree.specs.Neighbour.{trail, reach, in_place, Meets, lowest_fork, fork_state}
use Rattle.tree.proofs.Node.{node, place, place-lt, node-same, same-node, place-node, node-place}
use Rattle.tree.proofs.Beside.{trail-lt, Beside}
use Rattle.tree.proofs.Bit.{num_of, bit-num_of, num_of-lt, bit-zero, bit-ext, shr-add}
use Rattle.tree.proofs.Seven.{stop, stop-node, stop-lt, stops-beside, node-read, glue, glue-lt, glue-ge, forks, forks-give}
use Rattle.tree.proofs.Link.{stop_in-stop, place_of-place, length-order_of, get_or-order_of}
use Rattle.tree.proofs.Xor.{beside-xor}

-- ---- Places and stops are one to one

-- in each place is a stop
pub stop_in-lt : (k F p : ℕ) → stop_in k F p < 2 ^ k
stop_in-lt k F p = rw stop_in-stop (stop-lt (bit F) k p)

-- each stop has a place
pub place_of-lt : (k F i : ℕ) → place_of k F i < 2 ^ k
place_of-lt k F i = rw place_of-place (place-lt (bit F) k (2 ^ k + i))

-- the stop in place p has place p
pub place_of-stop_in : (k F p : ℕ) → p < 2 ^ k → place_of k F (stop_in k F p) ≡ p
place_of-stop_in k F p b = place_of-place k F (stop_in k F p) ∙ rw (stop_in-stop k F p, stop-node (bit F) k p) (place-node (bit F) k p b)

-- the place of stop i has stop i
pub stop_in-place_of : (k F i : ℕ) → i < 2 ^ k → stop_in k F (place_of k F i) ≡ i
stop_in-place_of k F i b =
    let w : ℕ = 2 ^ k + i in
    let n : node (bit F) k (place (bit F) k w) ≡ w = node-place (bit F) k w (omega arith) (omega (arith, pow-succ' 2 k)) in
    let s : 2 ^ k + stop (bit F) k (place (bit F) k w) ≡ node (bit F) k (place (bit F) k w) = stop-node (bit F) k (place (bit F) k w) in
    stop_in-stop k F (place_of k F i) ∙ rw (place_of-place k F i) (omega arith)

-- ---- Theorem 7, forward

-- the two forms of what Theorem 7 asks of neighbours
pub near-beside : (p a b : ℕ) → ((reach p ≤ bit_xor a b) × (bit_xor a b < 2 * reach p)) ↔ Beside (trail p) a b
unfolding reach
near-beside p a b = (λ h. (beside-xor (trail p) a b).1 (h.0, rw wide h.1), λ h. let x = (beside-xor (trail p) a b).0 h in (x.0, rw (← wide) x.1))
  where
    wide : 2 ^ (trail p + 1) ≡ 2 * 2 ^ trail p
    wide = rw add-one (pow-succ' 2 (trail p))

-- the stops in places p - 1 and p of an order lie on two sides of one fork
pub beside-order_of : (k F p : ℕ) → 1 ≤ p → p < 2 ^ k → Beside (trail p) (in_place (order_of k F) (p - 1)) (in_place (order_of k F) p)
beside-order_of k F p a b =
    rw (get_or-order_of k F p b, get_or-order_of k F (p - 1) (omega arith), stop_in-stop k F p, stop_in-stop k F (p - 1)) (stops-beside (bit F) k p a b)

-- an order meets the test at every place
pub forward : (k F : ℕ) → Meets k (order_of k F)
forward k F = record {
  long = length-order_of k F;
  small = λ p b. rw (get_or-order_of k F p b) (stop_in-lt k F p);
  near = λ p a b. (near-beside p _ _).1 (beside-order_of k F p a b);
}

-- 'The lowest fork above both is exchanged exactly if bit t of the stop in p is 0'
pub read-fork : (k F p : ℕ) → 1 ≤ p → p < 2 ^ k → bit F (lowest_fork k p (stop_in k F p)) ≡ fork_state p (stop_in k F p)
read-fork k F p a b =
    let t : ℕ = trail p in
    let i : ℕ = stop (bit F) k p in
    let h : ℕ = k - 1 - t in
    let l : t < k = trail-lt k p a b in
    let e : k ≡ h + suc t = omega arith in
    let e' : k ≡ suc h + t = omega arith in
    let d : k - h ≡ suc t = omega arith in
    let u : (2 ^ k + i) / 2 ^ suc t ≡ 2 ^ h + i / 2 ^ suc t = ap (λ x. (2 ^ x + i) / 2 ^ suc t) e ∙ shr-add h (suc t) i in
    let w : (2 ^ k + i) / 2 ^ t ≡ 2 ^ suc h + i / 2 ^ t = ap (λ x. (2 ^ x + i) / 2 ^ t) e' ∙ shr-add (suc h) t i in
    let r : bit F (2 ^ h + i / 2 ^ suc t) % 2 + (2 ^ suc h + i / 2 ^ t) % 2 ≡ 1
    = rw (← stop-node (bit F) k p, u, w) at (node-read (bit F) k p a b) in
    rw (stop_in-stop k F p, d) (omega (arith, pow-succ' 2 h))

-- ---- Theorem 7, backward

-- the set of forks that gives the order o of 2^k stops
unfoldable pub set_of : ℕ → List ℕ → ℕ
set_of k o = num_of (glue 1 (λ v. 0) (forks k (in_place o))) (2 ^ k)

-- a list that meets the test is an order
pub backward : (k : ℕ) (o : List ℕ) → Meets k o → order_of k (set_of k o) ≡ o
unfolding set_of
backward k o m = ext_get_or 0 (order_of k F) o (length-order_of k F ∙ sym m.long) each
  where
    F : ℕ
    F = set_of k o

    at : ℕ → ℕ
    at = in_place o

    bits : (v : ℕ) → 1 ≤ v → v < 2 ^ k → bit F v % 2 ≡ forks k at v % 2
    bits v x y = omega (arith, bit-num_of (glue 1 (λ w. 0) (forks k at)) (2 ^ k) v y, glue-ge 1 (λ w. 0) (forks k at) v x)

    each : (p : ℕ) → p < length (order_of k F) → get_or (order_of k F) p 0 ≡ get_or o p 0
    each p b =
        let f : ℕ → ℕ = forks k at in
        let c : p < 2 ^ k = omega (arith, length-order_of k F) in
        let n : node (bit F) k p ≡ node f k p = node-same (bit F) f k bits p in
        let g : stop f k p ≡ at p = forks-give k at (record { small = m.small; beside = λ q x y. (near-beside q _ _).0 (m.near q x y) }) p c in
        omega (arith, get_or-order_of k F p c, stop_in-stop k F p, stop-node (bit F) k p, stop-node f k p)

-- Theorem 7: an order is allowed exactly if it meets the test at every place
pub theorem7 : (k : ℕ) (o : List ℕ) → Allowed k o ↔ Meets k o
theorem7 k o = (λ a. rw (← a.1) (forward k a.0), λ m. (set_of k o, backward k o m))

-- ---- An order decides its set of forks, and is decided by it

module _ (k F G : ℕ) where
  -- in each place the same stop, so the same fork or stop
  one : (p : ℕ) → p < 2 ^ k → (get_or (order_of k F) p 0 ≡ get_or (order_of k G) p 0) ↔ (node (bit F) k p ≡ node (bit G) k p)
  one p c = (λ e. omega (arith, f, g), λ e. omega (arith, f, g))
    where
      f : 2 ^ k + get_or (order_of k F) p 0 ≡ node (bit F) k p
      f = rw (get_or-order_of k F p c, stop_in-stop k F p) (stop-node (bit F) k p)

      g : 2 ^ k + get_or (order_of k G) p 0 ≡ node (bit G) k p
      g = rw (get_or-order_of k G p c, stop_in-stop k G p) (stop-node (bit G) k p)

  -- one order, one set of forks
  pub decides : order_of k F ≡ order_of k G → (v : ℕ) → 1 ≤ v → v < 2 ^ k → bit F v ≡ bit G v
  decides e v a b = omega (arith, same-node (bit F) (bit G) k (λ p c. (one p c).0 (ap (λ o. get_or o p 0) e)) v a b)

  -- one set of forks, one order
  pub decided : ((v : ℕ) → 1 ≤ v → v < 2 ^ k → bit F v ≡ bit G v) → order_of k F ≡ order_of k G
  decided s = ext_get_or 0 (order_of k F) (order_of k G) (length-order_of k F ∙ sym (length-order_of k G)) each
    where
      each : (p : ℕ) → p < length (order_of k F) → get_or (order_of k F) p 0 ≡ get_or (order_of k G) p 0
      each p b = (one p (omega (arith, length-order_of k F))).1 (node-same (bit F) (bit G) k (λ v x y. ap (λ z. z % 2) (s v x y)) p)

-- sets of forks, as even numbers less than 2^(2^k), and allowed orders are one to one

-- the set of an order has bits below 2^k
pub set_of-lt : (k : ℕ) (o : List ℕ) → set_of k o < 2 ^ 2 ^ k
unfolding set_of
set_of-lt k o = num_of-lt _ (2 ^ k)

-- and no fork 0
pub set_of-even : (k : ℕ) (o : List ℕ) → set_of k o % 2 ≡ 0
unfolding set_of
set_of-even k o =
    let f : ℕ → ℕ = forks k (in_place o) in
    let g : ℕ → ℕ = glue 1 (λ v. 0) f in
    omega (arith, bit-num_of g (2 ^ k) 0 (pow_pos k), bit-zero (num_of g (2 ^ k)), glue-lt 1 (λ v. 0) f 0 (omega arith))

-- the set of the order of F is F
pub set_of-order_of : (k F : ℕ) → F < 2 ^ 2 ^ k → F % 2 ≡ 0 → set_of k (order_of k F) ≡ F
set_of-order_of k F a b = bit-ext (2 ^ k) G F (set_of-lt k (order_of k F)) a each
  where
    G : ℕ
    G = set_of k (order_of k F)

    each : (v : ℕ) → v < 2 ^ k → bit G v ≡ bit F v
    each zero c = omega (arith, bit-zero G, bit-zero F, set_of-even k (order_of k F))
    each (suc v) c = decides k G F (backward k (order_of k F) (forward k F)) (suc v) (omega arith) c
