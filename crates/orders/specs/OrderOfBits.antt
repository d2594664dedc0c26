-- The order of fork bits.
use Rattle.std.specs.Prelude.{◌≡◌, List, ℕ, leb, length, Result}
use Rattle.base.specs.declared.Refusal.{Refusal}
use Rattle.base.specs.Refusal.{wrong_k, wrong_size}
use Rattle.base.specs.Outcome.{Outcome, need, giving, done, said, after}
use Rattle.base.specs.Buffer.{Unsigned, SharedUnsigned, at_entry, at_exit, contents}
use Rattle.base.specs.Size.{max_k}
use Rattle.tree.specs.Order.{order_of}
use Rattle.orders.specs.Bits.{judge_forks}
use Rattle.orders.specs.Lent.{forks_in, order_fits, bits_fit}

-- the order that a lent string's set gives, to be written to a buffer of `room` places: 5, 8, 12
unfoldable pub order_of_bits : (k : ℕ) (bits : List ℕ) (room : ℕ) → Outcome (List ℕ)
order_of_bits k bits room =
    need (leb k max_k) wrong_k
    (need (bits_fit k (length bits)) wrong_size
    (need (order_fits k room) wrong_size
    (giving (order_of k) (judge_forks k (forks_in k bits)))))

-- the promise: the answer, and the lent places before and after
pub record OrderIsMade (k : ℕ) (bits before afterwards : List ℕ) (r : Result Unit Refusal) : Type 0 where
  pub said : said r ≡ done (order_of_bits k bits (length before))
  pub left : afterwards ≡ after (order_of_bits k bits (length before)) (λ order. order) before

-- the same of the call's parameters
abbrev pub MakesOrder : ℕ → SharedUnsigned → Unsigned → Result Unit Refusal → Type 0
MakesOrder k bits order r = OrderIsMade k (contents bits) (at_entry order) (at_exit order) r
