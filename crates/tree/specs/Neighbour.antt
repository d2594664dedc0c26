-- Theorem 7 of document 000 in document 01's form: what two stops in neighbouring places have to do with each other.
use Rattle.std.specs.Prelude.{◌≡◌, Bool, cond, false, List, ℕ, zero, suc, ◌*◌, ◌-◌, ◌^◌, ◌≤◌, ◌<◌, leb, ltb, length, get_or}
use Rattle.std.specs.Int.Bits.{bit_xor}
use Rattle.std.specs.Int.Count.{count_trailing_zeros}
use Rattle.tree.specs.Fork.{bit, fork_above}

-- 'the number of trailing zero bits of place p', of a p that is not 0: it has fewer than p bits
unfoldable pub trail : ℕ → ℕ
trail p = count_trailing_zeros p p

-- 'r = 2^t, where t is the number of trailing zero bits of place p'
unfoldable pub reach : ℕ → ℕ
reach p = 2 ^ trail p

-- the reach of a place as code has it: place 0, which no move leads to, has the reach 0
unfoldable pub reach_of : ℕ → ℕ
reach_of zero = 0
reach_of (suc p) = reach (suc p)

-- 'the exclusive or of the stops in places p−1 and p is at least r and less than 2r': stop b may stand in place p after stop a
unfoldable pub may_follow : ℕ → ℕ → ℕ → Bool
may_follow p a b = cond (leb (reach p) (bit_xor a b)) (ltb (bit_xor a b) (2 * reach p)) false

-- the stop in place p of an order
abbrev pub in_place : List ℕ → ℕ → ℕ
in_place o p = get_or o p 0

-- 'An order of stops below n is allowed exactly if for every p from 1 to n−1 ..': what Theorem 7 asks of a list
pub record Meets (k : ℕ) (o : List ℕ) : Type 0 where
  pub long : length o ≡ 2 ^ k
  pub small : (p : ℕ) → p < 2 ^ k → in_place o p < 2 ^ k
  pub near : (p : ℕ) → 1 ≤ p → p < 2 ^ k → (reach p ≤ bit_xor (in_place o (p - 1)) (in_place o p)) × (bit_xor (in_place o (p - 1)) (in_place o p) < 2 * reach p)

-- the lowest fork above the stops in places p - 1 and p, from the stop in p
abbrev pub lowest_fork : ℕ → ℕ → ℕ → ℕ
lowest_fork k p b = fork_above k b (k - 1 - trail p)

-- 'The lowest fork above both is exchanged exactly if bit t of the stop in p is 0': its state, 1 for exchanged
abbrev pub fork_state : ℕ → ℕ → ℕ
fork_state p b = 1 - bit b (trail p)
