-- M-101: planning by the times between the stops of a path, where a fork may be held in a state; and what the private functions promise.
use Rattle.std.specs.Prelude.{◌≡◌, Bool, true, cond, List, ℕ, zero, suc, ◌+◌, ◌*◌, ◌^◌, ◌≤◌, ◌<◌, ltb, length, Option, None, Some, Result}
use Rattle.base.specs.declared.Refusal.{Refusal}
use Rattle.base.specs.Refusal.{no_such_fork}
use Rattle.base.specs.Outcome.{Outcome, gives, need, and_then}
use Rattle.base.specs.Buffer.{Unsigned, at_entry, at_exit}
use Rattle.stop.specs.declared.Stop.{Stop}
use Rattle.path.specs.declared.PathBytes.{PathBytes}
use Rattle.path.specs.Path.{body_after_head}
use Rattle.times.specs.Table.{entry_of}
use Rattle.tree.specs.Total.{total}
use Rattle.tree.specs.Wanted.{wanted}
use Rattle.costs.specs.Costs.{held}
use Rattle.rows.specs.declared.fork.Held.{Held}
use Rattle.planner.specs.Plan.{Plan, plan_room}
use Rattle.planner.specs.Places.{OrderIsWritten}

-- the sets of forks that count: 'with that fork in the opposite state', those that hold it in the state, 1 for exchanged; 0 is no fork, and all sets count
unfoldable pub holding : (fork state : ℕ) → ℕ → Bool
holding zero state F = true
holding (suc v) state F = held (suc v) state F

-- the state of a fork that is exchanged, or not
abbrev pub state_of : Bool → ℕ
state_of exchanged = cond exchanged 1 0

-- the order that is wanted among those of these sets by the times between 2^k stops, and its total
abbrev pub held_plan : (k : ℕ) (stops : List Stop) (fork state : ℕ) → Plan
held_plan k stops fork state =
    let order = wanted k (total (entry_of stops)) (holding fork state) in
    record { order = order; total = total (entry_of stops) order }

-- planning by path bytes whose head gave the version and k, with buffers of these lengths: 'k, lengths, contents', and then 'the fork is not 1 to n−1',
-- where 0 is no fork
unfoldable pub plan_held : (bytes : List ℕ) (version k fork state order totals pivots : ℕ) → Outcome Plan
plan_held bytes version k fork state order totals pivots =
    and_then (plan_room k (2 ^ k * 2 ^ k) order totals pivots) (λ room.
    and_then (body_after_head bytes version k) (λ stops.
    need (ltb fork (2 ^ k)) no_such_fork
    (gives (held_plan k stops fork state))))

-- the promise, of the call's parameters
abbrev pub PlansHeld : PathBytes → ℕ → Bool → Unsigned → Unsigned → Unsigned → Result ℕ Refusal → Type 0
PlansHeld p fork exchanged order totals pivots r =
    OrderIsWritten p.k (plan_held p.bytes.now p.version p.k fork (state_of exchanged) (length (at_entry order)) (length (at_entry totals)) (length (at_entry pivots)))
    (at_entry order) (at_entry totals) (at_entry pivots) (at_exit order) (at_exit totals) (at_exit pivots) r

-- ---- the method

-- of n stops 2^level are on each side of the fork
pub record LevelOf (n fork level : ℕ) : Type 0 where
  pub inside : fork * 2 ^ level < n
  pub whole : n ≤ fork * 2 ^ (level + 1)

-- this fork of n stops is held so, and none where its number is 0
abbrev pub HoldsFork : ℕ → ℕ → Bool → Option Held → Type 0
HoldsFork n fork exchanged None = fork ≡ 0
HoldsFork n fork exchanged (Some h) = (0 < fork) × (h.fork ≡ fork) × (h.exchanged ≡ exchanged) × LevelOf n fork h.level
