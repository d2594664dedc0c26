-- The fork bits of an order.
use Rattle.std.specs.Prelude.{◌≡◌, List, ℕ, length, Result}
use Rattle.base.specs.declared.Refusal.{Refusal}
use Rattle.base.specs.Outcome.{Outcome, giving, done, said, after}
use Rattle.base.specs.Buffer.{Unsigned, SharedUnsigned, at_entry, at_exit, contents}
use Rattle.orders.specs.Allowed.{forks_of}
use Rattle.orders.specs.Bits.{bit_string}
use Rattle.orders.specs.Lent.{lent_order, bits_fit}

-- the string of the set that gives a lent order, to be written to a buffer of `room` bytes: 5, 8, 9, 10
unfoldable pub fork_bits : (k : ℕ) (order : List ℕ) (room : ℕ) → Outcome (List ℕ)
fork_bits k order room = giving (λ o. bit_string k (forks_of k o)) (lent_order k order (bits_fit k room))

-- the promise: the answer, and the lent bytes before and after
pub record BitsAreMade (k : ℕ) (order before afterwards : List ℕ) (r : Result Unit Refusal) : Type 0 where
  pub said : said r ≡ done (fork_bits k order (length before))
  pub left : afterwards ≡ after (fork_bits k order (length before)) (λ string. string) before

-- the same of the call's parameters
abbrev pub MakesBits : ℕ → SharedUnsigned → Unsigned → Result Unit Refusal → Type 0
MakesBits k order bits r = BitsAreMade k (contents order) (at_entry bits) (at_exit bits) r
