-- 'path bytes to order-file bytes'
use Rattle.std.specs.Prelude.{◌≡◌, List, ℕ, ◌^◌, leb, length, take, Result, Ok}
use Rattle.base.specs.Refusal.{wrong_size}
use Rattle.base.specs.declared.Refusal.{Refusal}
use Rattle.base.specs.Outcome.{Outcome, gives, need, giving, said, after}
use Rattle.base.specs.Buffer.{Unsigned, SharedUnsigned, at_entry, at_exit, contents}
use Rattle.path.specs.Path.{Path, read_path}
use Rattle.times.specs.Table.{entry_of}
use Rattle.orders.specs.Allowed.{forks_of}
use Rattle.orders.specs.Bits.{bit_string}
use Rattle.order_file.specs.File.{order_file, file_for, file_size}
use Rattle.path_plan.specs.Claim.{ShortestFor}
use Rattle.path_plan.specs.PathPlan.{wanted_order}
use Rattle.jobs.specs.Limit.{job_max_k}

-- 'The controller's order-file output counts among the path head's lengths'
abbrev pub plan_test : (room k : ℕ) → Outcome Unit
plan_test room k =
    need (leb k job_max_k) wrong_size
    (need (leb (file_size (2 ^ k)) room) wrong_size
    (gives tt))

-- the order file of the wanted order by the travel times of a path's stops
abbrev pub wanted_file : Path → List ℕ
wanted_file p = file_for p.k (entry_of p.stops) (wanted_order p)

-- planning path bytes into an output of `room` bytes
abbrev pub plan_file : (bytes : List ℕ) (highest room : ℕ) → Outcome (List ℕ)
plan_file bytes highest room = giving wanted_file (read_path bytes highest (plan_test room))

-- 'Where the controller's call accepts the same path, its order file carries that order and total': the first bytes of the output are the
-- file of an order and a total of which demand 3 holds
pub record Carries (bytes : List ℕ) (highest count : ℕ) (out : List ℕ) : Type 0 where
  pub k : ℕ
  pub order : List ℕ
  pub total : ℕ
  pub file : take count out ≡ order_file k total order (bit_string k (forks_of k order))
  pub shortest : ShortestFor bytes highest k order total

-- the promise: the answer, the output before and after, and demand 3 of what it carries
pub record FileIsPlanned (bytes : List ℕ) (highest : ℕ) (before afterwards : List ℕ) (r : Result ℕ Refusal) : Type 0 where
  pub said : said r ≡ giving length (plan_file bytes highest (length before))
  pub left : afterwards ≡ after (plan_file bytes highest (length before)) (λ file. file) before
  pub claim : (count : ℕ) → r ≡ Ok count → Carries bytes highest count afterwards

-- the same of the call's parameters
abbrev pub PlansFile : SharedUnsigned → ℕ → Unsigned → Result ℕ Refusal → Type 0
PlansFile path highest out r = FileIsPlanned (contents path) highest (at_entry out) (at_exit out) r
