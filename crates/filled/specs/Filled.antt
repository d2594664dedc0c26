-- What planning the wanted list answers, and what it leaves in the lent buffers.
use Rattle.std.specs.Prelude.{◌≡◌, Bool, true, ◌&&◌, List, [], ◌∷◌, ℕ, ◌*◌, ◌^◌, leb, eqb, length, get_or, take, replicate, Result, Ok}
use Rattle.base.specs.declared.Refusal.{Refusal}
use Rattle.base.specs.Refusal.{wrong_k, out_of_range, wrong_size}
use Rattle.base.specs.Outcome.{Outcome, gives, need, giving, said, after}
use Rattle.base.specs.Buffer.{Unsigned, SharedUnsigned, at_entry, at_exit, contents}
use Rattle.tree.specs.Total.{entry, total}
use Rattle.orders.specs.Bits.{byte_count, bit_string, set_of_bits}
use Rattle.filled.specs.declared.ListPlanned.{ListPlanned}
use Rattle.filled.specs.Forks.{list_forks, ForksOfList}
use Rattle.filled.specs.Lists.{wanted_list, ShortestList}

-- 'k goes up to 6, above that 5'
abbrev pub max_filled_k : ℕ
max_filled_k = 6

-- 'lend one byte per stop': of the lent bytes the first n count
abbrev pub bytes_in : ℕ → List ℕ → List ℕ
bytes_in k empties = take (2 ^ k) empties

-- '0 for filled and 1 for empty': stop i is filled; past the end of the bytes there is no stop
unfoldable pub filled_in : List ℕ → ℕ → Bool
filled_in bytes i = eqb (get_or bytes i 1) 0

-- no byte has another value
unfoldable pub flags : List ℕ → Bool
flags [] = true
flags (b ∷ bytes) = leb b 1 && flags bytes

-- a table n² long; a byte for each stop; 'The list's buffer needs n places, however many stops are filled'; fork bits 'in ceil(n/8) lent bytes';
-- 'The lent work space is n² 64-bit numbers'
unfoldable pub list_fits : (n table empties list bits work : ℕ) → Bool
list_fits n table empties list bits work = eqb table (n * n) && leb n empties && leb n list && leb (byte_count n) bits && leb (n * n) work

-- a plan: the list, its total and its forks
pub record ListPlan : Type 0 where
  pub list : List ℕ
  pub total : ℕ
  pub forks : ℕ

-- the one that is wanted by the times t, where s says which stops are filled
abbrev pub wanted_plan : ℕ → (ℕ → Bool) → (ℕ → ℕ → ℕ) → ListPlan
wanted_plan k s t = record { list = wanted_list k s t; total = total t (wanted_list k s t); forks = list_forks k s (wanted_list k s t) }

-- k (5) and the lengths (8) are judged before what else is
unfoldable pub lengths_first : (k table empties list bits work : ℕ) → Outcome Unit → Outcome Unit
lengths_first k table empties list bits work others =
    need (leb k max_filled_k) wrong_k
    (need (list_fits (2 ^ k) table empties list bits work) wrong_size
    others)

-- whether a call is accepted: 'another value among the first n is 6, after the lengths'
unfoldable pub list_room : (k table : ℕ) (empties : List ℕ) (list bits work : ℕ) → Outcome Unit
list_room k table empties list bits work =
    lengths_first k table (length empties) list bits work
    (need (flags (bytes_in k empties)) out_of_range
    (gives tt))

-- planning by a table, with buffers of these lengths
abbrev pub plan_list : (k : ℕ) (table empties : List ℕ) (list bits work : ℕ) → Outcome ListPlan
plan_list k table empties list bits work =
    giving (λ room. wanted_plan k (filled_in (bytes_in k empties)) (entry (2 ^ k) table)) (list_room k (length table) empties list bits work)

-- what is answered of a plan: the list's total and its length
abbrev pub answer_of : ListPlan → ListPlanned
answer_of plan = record { total = plan.total; length = length plan.list }

-- what holds of an answer that accepts: the list that it leaves is the shortest, and the bits that it leaves are the list's
pub record Accepted (k : ℕ) (table empties list' bits' : List ℕ) (c count : ℕ) : Type 0 where
  pub shortest : ShortestList k (filled_in (bytes_in k empties)) (entry (2 ^ k) table) (take count list') c
  pub forks : ForksOfList k (filled_in (bytes_in k empties)) (take count list') (set_of_bits (take (byte_count (2 ^ k)) bits'))

-- the promise: the answer, and each lent buffer before and after; `claim` is optimality
pub record ListIsPlanned (k : ℕ) (table empties : List ℕ) (o : Outcome ListPlan) (list bits work list' bits' work' : List ℕ) (r : Result ListPlanned Refusal) : Type 0 where
  pub said : said r ≡ giving answer_of o
  pub wrote : list' ≡ after o (λ p. p.list) list
  pub marked : bits' ≡ after o (λ p. bit_string k p.forks) bits
  pub cleared : work' ≡ after o (λ p. replicate (2 ^ k * 2 ^ k) 0) work
  pub claim : (p : ListPlanned) → r ≡ Ok p → Accepted k table empties list' bits' p.total p.length

-- the same of the call's parameters
abbrev pub PlansList : ℕ → SharedUnsigned → SharedUnsigned → Unsigned → Unsigned → Unsigned → Result ListPlanned Refusal → Type 0
PlansList k table empties list bits work r =
    ListIsPlanned k (contents table) (contents empties)
    (plan_list k (contents table) (contents empties) (length (at_entry list)) (length (at_entry bits)) (length (at_entry work)))
    (at_entry list) (at_entry bits) (at_entry work) (at_exit list) (at_exit bits) (at_exit work) r
