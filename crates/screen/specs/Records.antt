-- The screen's records: an order, and beside it the inner travel of every fork's group. 'The screen's records are lent and validated on entry.'
use Rattle.std.specs.Prelude.{Bool, ◌&&◌, List, ℕ, ◌^◌, leb, ltb, length, take}
use Rattle.base.specs.Refusal.{wrong_total, no_such_fork}
use Rattle.base.specs.Outcome.{Outcome, gives, need, and_then}
use Rattle.orders.specs.Allowed.{judge_order}
use Rattle.orders.specs.Lent.{order_in, lent_order}
use Rattle.orders.specs.Same.{alike}
use Rattle.groups.specs.Exchange.{exchange_fork}
use Rattle.group_sums.specs.Travel.{sums_of}

-- n stops and n sums
pub record Records : Type 0 where
  pub order : List ℕ
  pub sums : List ℕ

-- an order and its sums; t i j is the time from stop i to stop j
abbrev pub records_of : (t : ℕ → ℕ → ℕ) (k : ℕ) (o : List ℕ) → Records
records_of t k o = record { order = o; sums = sums_of t k o }

-- 'then 11 if a sum, place 0 included, is not the order's': of the lent sums the first n are looked at
unfoldable pub with_sums : (t : ℕ → ℕ → ℕ) (k : ℕ) (sums o : List ℕ) → Outcome Records
with_sums t k sums o = need (alike (take (2 ^ k) sums) (sums_of t k o)) wrong_total (gives (records_of t k o))

-- lent records, judged: '9, 10, then 11'
unfoldable pub judge_records : (t : ℕ → ℕ → ℕ) (k : ℕ) (order sums : List ℕ) → Outcome Records
judge_records t k order sums = and_then (judge_order k (order_in k order)) (with_sums t k sums)

-- the same for a caller that has not tested k and the lengths, which come first: 5, 8
unfoldable pub lent_records : (t : ℕ → ℕ → ℕ) (k : ℕ) (order sums : List ℕ) → Outcome Records
lent_records t k order sums = and_then (lent_order k order (leb (2 ^ k) (length sums))) (with_sums t k sums)

-- the forks are 1 to n − 1
abbrev pub is_fork : (k fork : ℕ) → Bool
is_fork k fork = leb 1 fork && ltb fork (2 ^ k)

-- 'exchanges one fork and updates order and sums'; 'A fork out of range is 14, after those'
unfoldable pub fork_exchanged : (t : ℕ → ℕ → ℕ) (k fork : ℕ) → Records → Outcome Records
fork_exchanged t k fork r = need (is_fork k fork) no_such_fork (gives (records_of t k (exchange_fork k r.order fork)))
