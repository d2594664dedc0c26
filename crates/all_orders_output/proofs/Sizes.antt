-- How long a line is: why 28 bytes are enough for a line of up to 8 stops, and 3,584 for all of them.
use mathlib.Core.Path.{◌≡◌, refl, ◌∙◌}
use mathlib.Core.List.{List, [], ◌∷◌}
use Prim.Native.Nat.{ℕ, suc, ◌*◌, ◌-◌, ◌^◌, ◌≤◌, ◌<◌, suc-le-suc, zero-le}
use native.Mathlib.Nat.{le_trans, mul-le-mul_left, mul-le-mul_right}
use native.Mathlib.Omega.{arith}
use lib.ListN.{length, get_or, length-append}
use lib.Pow.{pow_mono}
use Rattle.base.specs.Size.{stop_count}
use Rattle.base.proofs.Size.{stop_count-pow, stop_count-pos}
use Rattle.tree.specs.Order.{order_of}
use Rattle.tree.specs.Total.{total}
use Rattle.tree.proofs.Link.{length-order_of, get_or-order_of}
use Rattle.tree.proofs.Moves.{total-carry}
use Rattle.tree.proofs.Theorem7.{stop_in-lt}
use Rattle.orders.specs.Allowed.{set_count}
use Rattle.all_orders_output.specs.Decimal.{decimal}
use Rattle.all_orders_output.specs.Text.{spaced, line_of, order_line}
use Rattle.all_orders_output.specs.Output.{print_max_k}
use Rattle.all_orders_output.specs.Local.{longest_line}
use Rattle.all_orders_output.proofs.Decimal.{decimal-small, length-decimal}

-- at most 8 stops, and 128 sets of forks
pub pow-le-8 : (k : ℕ) → k ≤ print_max_k → 2 ^ k ≤ 8
pow-le-8 k h = pow_mono {i = k} {j = 3} h

-- the count of stops as the code has it
pub record Few (k n : ℕ) : Type 0 where
  pub stops : n ≡ 2 ^ k
  pub eight : n ≤ 8
  pub square : n * n ≤ 64

pub few-stops : (k n : ℕ) → k ≤ print_max_k → n ≡ stop_count k → Few k n
few-stops k n h e =
    let stops : n ≡ 2 ^ k = e ∙ stop_count-pow k (omega (arith, h)) in
    let eight : n ≤ 8 = rw stops (pow-le-8 k h) in
    record { stops = stops; eight = eight; square = le_trans (mul-le-mul_left n eight) (mul-le-mul_right 8 eight) }

pub count-le-8 : (k : ℕ) → k ≤ print_max_k → stop_count k ≤ 8
count-le-8 k h = (few-stops k (stop_count k) h refl).eight

pub count-square : (k : ℕ) → k ≤ print_max_k → stop_count k * stop_count k ≤ 64
count-square k h = (few-stops k (stop_count k) h refl).square

pub sets-le-128 : (k : ℕ) → k ≤ print_max_k → set_count k ≤ 128
sets-le-128 k h = pow_mono {i = 2 ^ k - 1} {j = 7} (omega (arith, pow-le-8 k h))

-- stops of one digit take two bytes each
length-spaced : (o : List ℕ) → ((p : ℕ) → p < length o → get_or o p 0 < 10) → length (spaced o) ≡ 2 * length o
unfolding spaced
length-spaced [] h = refl
length-spaced (s ∷ ss) h =
    let rest : length (spaced ss) ≡ 2 * length ss = length-spaced ss (λ p b. h (suc p) (suc-le-suc b)) in
    rw (decimal-small s (h 0 (suc-le-suc zero-le))) (omega arith)

-- a total of entries below 2^32
total-small : (k : ℕ) (t : ℕ → ℕ → ℕ) (F : ℕ) → ((a b : ℕ) → t a b < 2 ^ 32) → total t (order_of k F) ≤ (2 ^ k - 1) * 2 ^ 32
total-small k t F small = total-carry t t (λ m x y. x ≤ m * 2 ^ 32) (omega arith) k (λ m x y i j b c d e. omega (arith, small i j)) F

-- a line of up to 8 stops
pub line_small : (k : ℕ) (t : ℕ → ℕ → ℕ) (F : ℕ) → k ≤ print_max_k → ((a b : ℕ) → t a b < 2 ^ 32) → length (order_line k t F) ≤ longest_line
unfolding order_line line_of
line_small k t F h small =
    let n = pow-le-8 k h in
    let sum : total t (order_of k F) < 10 ^ 11 = omega (arith, total-small k t F small) in
    let first : length (decimal (total t (order_of k F))) ≤ 11 = length-decimal 10 _ sum in
    let long : length (order_of k F) ≡ 2 ^ k = length-order_of k F in
    let stops : length (spaced (order_of k F)) ≡ 2 * length (order_of k F)
    = length-spaced (order_of k F) (λ p b. rw (get_or-order_of k F p (omega arith)) (omega (arith, stop_in-lt k F p))) in
    rw (length-append, length-append) (omega arith)

-- what code goes by for its bounds
pub ruleset few = (stop_count-pos, pow-le-8, count-le-8, count-square, sets-le-128, length-append)
