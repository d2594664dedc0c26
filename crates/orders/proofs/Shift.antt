-- The lowest fork above two neighbours, and its state, from the reach r of the place: to halve a number t times is to divide it by r.
use mathlib.Core.Path.{◌≡◌, ap, ◌∙◌}
use mathlib.Core.Bool.{false}
use mathlib.Core.List.{List}
use Prim.Native.Nat.{ℕ, suc, ◌+◌, ◌*◌, ◌-◌, ◌/◌, ◌%◌, ◌^◌, ◌≤◌, ◌<◌}
use native.Mathlib.Nat.{pow-succ'}
use native.Mathlib.Decide.{dec_lt}
use native.Mathlib.Omega.{arith}
use lib.Bits.{bit_xor}
use lib.Dec.{ltb}
use lib.Pow.{pow_pos, pow-lt}
use borrow.Author.Tests.{le-leb, lt-leb, lt-ltb, le-ltb, eq-eqb, ne_eqb}
use Rattle.base.specs.Size.{max_k, stop_count}
use Rattle.base.proofs.Size.{stop_count-pow, pow-le-1024}
use Rattle.tree.specs.Neighbour.{trail, reach, reach_of, may_follow, lowest_fork, fork_state}
use Rattle.tree.proofs.Beside.{trail-lt, reach_of-pos}
use Rattle.tree.proofs.Bit.{shr-add}
use Rattle.orders.specs.Bits.{raised, marked}

-- the reach of a place of a tree
pub reach-pos : (p : ℕ) → 0 < reach p
unfolding reach
reach-pos p = pow_pos (trail p)

-- is less than the number of stops
pub reach-lt : (k p : ℕ) → 1 ≤ p → p < 2 ^ k → reach p < 2 ^ k
unfolding reach
reach-lt k p a b = pow-lt (trail-lt k p a b)

-- the lowest fork above places p - 1 and p, from the stop b in p
pub lowest-shift : (k p b : ℕ) → 1 ≤ p → p < 2 ^ k → (2 ^ k + b) / (2 * reach p) ≡ lowest_fork k p b
unfolding reach
lowest-shift k p b x y =
    let t : ℕ = trail p in
    let h : ℕ = k - 1 - t in
    let l : t < k = trail-lt k p x y in
    let e : k ≡ h + suc t = omega arith in
    let d : k - h ≡ suc t = omega arith in
    rw (d, ← pow-succ' 2 t) (ap (λ n. (2 ^ n + b) / 2 ^ suc t) e ∙ shr-add h (suc t) b)

-- what code that goes by places knows of n and r
pub record Known (k p n r : ℕ) : Type 0 where
  pub count : n ≡ 2 ^ k
  pub small : n ≤ 1024
  pub is : r ≡ reach p
  pub pos : 0 < r
  pub below : r < n

pub known : (k p n r : ℕ) → k ≤ max_k → 0 < p → p < 2 ^ k → n ≡ stop_count k → r ≡ reach_of p → Known k p n r
known k p n r h a b e f =
    let c : n ≡ 2 ^ k = e ∙ stop_count-pow k h in
    let i : r ≡ reach p = f ∙ reach_of-pos p a in
    record { count = c; small = omega (arith, pow-le-1024 k h); is = i; pos = omega (arith, reach-pos p); below = omega (arith, reach-lt k p a b) }

-- the fork's number as the code has it
pub fork-is : (k p b n r : ℕ) → 0 < p → p < 2 ^ k → Known k p n r → (n + b) / (2 * r) ≡ lowest_fork k p b
fork-is k p b n r x y w = rw (w.count, w.is) (lowest-shift k p b x y)

module _ (k p b : ℕ) (s : List ℕ) where
  -- an exchanged fork's bit is set
  pub marked-exchanged : b / reach p % 2 ≡ 0 → marked k p b s ≡ raised s (lowest_fork k p b)
  unfolding marked reach
  marked-exchanged h = let e : fork_state p b ≡ 1 = omega arith in rw (eq-eqb (fork_state p b) 1 e)

  -- no other is
  pub marked-kept : (b / reach p % 2 ≡ 0 → ⊥) → marked k p b s ≡ s
  unfolding marked reach
  marked-kept h =
      let z : fork_state p b ≡ 1 → ⊥ = λ e. h (omega arith) in
      rw (ne_eqb (fork_state p b) 1 z)

-- less than 2r, without a sum
ltb-twice : (x r : ℕ) → r ≤ x → ltb (x - r) r ≡ ltb x (2 * r)
ltb-twice x r h = go (dec_lt x (2 * r))
  where
    go : Dec (x < 2 * r) → ltb (x - r) r ≡ ltb x (2 * r)
    go (yes l) = rw (lt-ltb x (2 * r) l) (lt-ltb (x - r) r (omega arith))
    go (no l) = rw (le-ltb x (2 * r) (omega arith)) (le-ltb (x - r) r (omega arith))

-- the two tests of neighbours
pub follow-near : (p a b : ℕ) → bit_xor a b < reach p → false ≡ may_follow p a b
unfolding may_follow
follow-near p a b h = rw (lt-leb _ _ h)

pub follow-far : (p a b : ℕ) → reach p ≤ bit_xor a b → ltb (bit_xor a b - reach p) (reach p) ≡ may_follow p a b
unfolding may_follow
follow-far p a b h = rw (le-leb _ _ h) (ltb-twice (bit_xor a b) (reach p) h)

-- what code goes by for the reach of a place
pub ruleset reaches = (reach_of-pos, reach-pos, reach-lt)
