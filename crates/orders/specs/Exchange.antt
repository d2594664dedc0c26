-- An exchange of forks: 'a call that takes an allowed order and a set of forks and gives the order with those forks' states inverted.
-- Forks are named by the tree, so a set always means the same groups.'
use Rattle.std.specs.Prelude.{◌≡◌, ◌&&◌, List, ℕ, length, get_or, Result}
use Rattle.std.specs.Int.Bits.{bit_xor}
use Rattle.base.specs.declared.Refusal.{Refusal}
use Rattle.base.specs.Outcome.{Outcome, and_then, giving, done, said, after}
use Rattle.base.specs.Buffer.{Unsigned, SharedUnsigned, at_entry, at_exit, contents}
use Rattle.base.specs.Lists.{tabulate}
use Rattle.tree.specs.Order.{order_of}
use Rattle.orders.specs.Allowed.{forks_of}
use Rattle.orders.specs.Bits.{judge_forks}
use Rattle.orders.specs.Lent.{forks_in, order_fits, bits_fit, lent_order}

-- 'the order with those forks' states inverted': the order that the symmetric difference of its own set of forks and the set X gives
unfoldable pub exchange : (k : ℕ) (o : List ℕ) (X : ℕ) → List ℕ
exchange k o X = order_of k (bit_xor (forks_of k o) X)

-- the forks of a lent string exchanged in a lent order, to be written to a buffer of `room` places: 5, 8, then 'Faulty orders are 9 or 10,
-- faulty sets 12, in that sequence'
unfoldable pub exchange_lent : (k : ℕ) (order bits : List ℕ) (room : ℕ) → Outcome (List ℕ)
exchange_lent k order bits room =
    and_then (lent_order k order (bits_fit k (length bits) && order_fits k room)) (λ o.
    giving (exchange k o) (judge_forks k (forks_in k bits)))

-- the promise: the answer, and the lent places before and after
pub record OrderIsExchanged (k : ℕ) (order bits before afterwards : List ℕ) (r : Result Unit Refusal) : Type 0 where
  pub said : said r ≡ done (exchange_lent k order bits (length before))
  pub left : afterwards ≡ after (exchange_lent k order bits (length before)) (λ o. o) before

-- the same of the call's parameters
abbrev pub ExchangesForks : ℕ → SharedUnsigned → SharedUnsigned → Unsigned → Result Unit Refusal → Type 0
ExchangesForks k order bits out r = OrderIsExchanged k (contents order) (contents bits) (at_entry out) (at_exit out) r

-- the first m bytes of a string, each with the bits inverted that the other string has there
unfoldable pub inverted : (m : ℕ) (s t : List ℕ) → List ℕ
inverted m s t = tabulate m (λ i. bit_xor (get_or s i 0) (get_or t i 0))
