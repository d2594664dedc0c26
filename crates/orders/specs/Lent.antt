-- Lent orders and fork strings: 'Every other call: k, lengths, contents in table order.'
use Rattle.std.specs.Prelude.{◌≡◌, Bool, true, List, ℕ, ◌*◌, ◌^◌, ◌≤◌, leb, eqb, length, take}
use Rattle.base.specs.Refusal.{wrong_k, wrong_size}
use Rattle.base.specs.Outcome.{Outcome, need}
use Rattle.base.specs.Size.{max_k}
use Rattle.orders.specs.Allowed.{stops_below, is_allowed, judge_order}
use Rattle.orders.specs.Bits.{byte_count, set_of_bits}

-- 'Of a lent order or fork string only the first n numbers or ceil(n/8) bytes are looked at'
abbrev pub order_in : ℕ → List ℕ → List ℕ
order_in k order = take (2 ^ k) order

abbrev pub forks_in : ℕ → List ℕ → ℕ
forks_in k bits = set_of_bits (take (byte_count (2 ^ k)) bits)

-- a lent order, or a buffer for one, of so many numbers is long enough
abbrev pub order_fits : (k size : ℕ) → Bool
order_fits k size = leb (2 ^ k) size

-- a lent fork string, or a buffer for one, of so many bytes
abbrev pub bits_fit : (k size : ℕ) → Bool
bits_fit k size = leb (byte_count (2 ^ k)) size

-- 'a table not n² long' is 8
abbrev pub table_fits : (k size : ℕ) → Bool
table_fits k size = eqb size (2 ^ k * 2 ^ k)

-- a lent order, judged: k above 10 (5); too few numbers, or something else that is lent does not fit (8); then 9 and 10
unfoldable pub lent_order : (k : ℕ) (order : List ℕ) (fits : Bool) → Outcome (List ℕ)
lent_order k order fits =
    need (leb k max_k) wrong_k
    (need (order_fits k (length order)) wrong_size
    (need fits wrong_size
    (judge_order k (order_in k order))))

-- a lent order that passed
pub record JudgedOrder (k : ℕ) (order : List ℕ) : Type 0 where
  pub small : k ≤ max_k
  pub long : 2 ^ k ≤ length order
  pub below : stops_below (2 ^ k) (order_in k order) ≡ true
  pub allowed : is_allowed k (order_in k order) ≡ true
