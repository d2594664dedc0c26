-- What the two calls come to: 'One call makes them from a path and an order; another, given the path too, exchanges one fork and updates
-- order and sums.'
use Rattle.std.specs.Prelude.{◌≡◌, List, ℕ, ◌^◌, leb, length, Result}
use Rattle.base.specs.Refusal.{wrong_size}
use Rattle.base.specs.declared.Refusal.{Refusal}
use Rattle.base.specs.Outcome.{Outcome, gives, need, and_then, giving, done, said, after}
use Rattle.base.specs.Buffer.{Unsigned, SharedUnsigned, at_entry, at_exit, contents}
use Rattle.path.specs.Path.{read_path}
use Rattle.times.specs.Table.{entry_of}
use Rattle.orders.specs.Allowed.{judge_order}
use Rattle.orders.specs.Lent.{order_in}
use Rattle.group_sums.specs.Travel.{sums_of}
use Rattle.screen.specs.Records.{Records, judge_records, fork_exchanged}

-- 'tests all its lent lengths in the head': an order and sums of at least n places each
unfoldable pub screen_room : (order sums k : ℕ) → Outcome Unit
screen_room order sums k =
    need (leb (2 ^ k) order) wrong_size
    (need (leb (2 ^ k) sums) wrong_size
    (gives tt))

-- the same by the least number of places of all that is lent, as code has it
unfoldable pub places_room : (places k : ℕ) → Outcome Unit
places_room places k = need (leb (2 ^ k) places) wrong_size (gives tt)

-- the sums of an order by the times of a path's stops: the path with the lengths in its head, then 9, 10
unfoldable pub group_sums : (bytes : List ℕ) (highest : ℕ) (order : List ℕ) (room : ℕ) → Outcome (List ℕ)
group_sums bytes highest order room =
    and_then (read_path bytes highest (screen_room (length order) room)) (λ p.
    giving (sums_of (entry_of p.stops) p.k) (judge_order p.k (order_in p.k order)))

-- the records with one fork exchanged: the path, then 9, 10, 11, 14
unfoldable pub exchange_records : (bytes : List ℕ) (highest fork : ℕ) (order sums : List ℕ) → Outcome Records
exchange_records bytes highest fork order sums =
    and_then (read_path bytes highest (screen_room (length order) (length sums))) (λ p.
    and_then (judge_records (entry_of p.stops) p.k order sums) (fork_exchanged (entry_of p.stops) p.k fork))

-- the promise of the first call: the answer, and the lent sums before and after
pub record SumsAreMade (bytes : List ℕ) (highest : ℕ) (order before afterwards : List ℕ) (r : Result Unit Refusal) : Type 0 where
  pub said : said r ≡ done (group_sums bytes highest order (length before))
  pub left : afterwards ≡ after (group_sums bytes highest order (length before)) (λ sums. sums) before

-- the promise of the second: the answer, and the lent order and sums before and after
pub record ForkIsExchanged (bytes : List ℕ) (highest fork : ℕ) (order sums order' sums' : List ℕ) (r : Result Unit Refusal) : Type 0 where
  pub said : said r ≡ done (exchange_records bytes highest fork order sums)
  pub left_order : order' ≡ after (exchange_records bytes highest fork order sums) (λ made. made.order) order
  pub left_sums : sums' ≡ after (exchange_records bytes highest fork order sums) (λ made. made.sums) sums

-- the same of the parameters of each call
abbrev pub MakesSums : SharedUnsigned → ℕ → SharedUnsigned → Unsigned → Result Unit Refusal → Type 0
MakesSums bytes highest order sums r = SumsAreMade (contents bytes) highest (contents order) (at_entry sums) (at_exit sums) r

abbrev pub ExchangesFork : SharedUnsigned → ℕ → ℕ → Unsigned → Unsigned → Result Unit Refusal → Type 0
ExchangesFork bytes highest fork order sums r =
    ForkIsExchanged (contents bytes) highest fork (at_entry order) (at_entry sums) (at_exit order) (at_exit sums) r
