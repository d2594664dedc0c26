-- What the costs that can be read mean: by a table of moves, by a table of places beside it, and by a path's bytes.
use Rattle.std.specs.Prelude.{Bool, true, cond, Option, None, Some, List, ℕ, ◌+◌, ◌/◌, ◌%◌, ◌^◌, eqb}
use Rattle.tree.specs.Fork.{bit}
use Rattle.tree.specs.Total.{entry}
use Rattle.times.specs.InPath.{time_in}
use Rattle.rows.specs.declared.fork.Held.{Held}
use Rattle.rows.specs.Costing.{Costing}

-- M-101, a fork held in a state: stop i of n may stand in place p. The stops below the fork make 2^(level+1); of these the one side may stand only where bit
-- `level` of the place is the stop's own, inverted if the fork is exchanged. Every other stop may stand anywhere
unfoldable pub held_fits : ℕ → Option Held → ℕ → ℕ → Bool
held_fits n None p i = true
held_fits n (Some h) p i =
    cond (eqb ((n + i) / 2 ^ (h.level + 1)) h.fork) (eqb (bit p h.level) ((bit i h.level + cond h.exchanged 1 0) % 2)) true

-- M-104: the move from the closing stop to stop i, if there is one
abbrev pub home_move : ℕ → List ℕ → Option ℕ → ℕ → ℕ
home_move n table None i = 0
home_move n table (Some last) i = entry n table last i

-- THE COSTS by a table of n rows: a move takes its entry, and the first stop costs the move from the closing one
abbrev pub table_costing : ℕ → List ℕ → Option ℕ → Costing
table_costing n table closing = record {
  stops = n;
  fits = λ p i. true;
  start = home_move n table closing;
  weight = λ p j i. entry n table j i;
}

-- by a table of places too. M-107: 'row stop, column place': 'A stop's entry for its place is added to the total, place 0 included'
abbrev pub placed_costing : ℕ → List ℕ → Option ℕ → List ℕ → Costing
placed_costing n table closing places = record {
  stops = n;
  fits = λ p i. true;
  start = λ i. home_move n table closing i + entry n places i 0;
  weight = λ p j i. entry n table j i + entry n places i p;
}

-- and by a path's bytes: a move takes the time between the two stops in the bytes
abbrev pub path_costing : ℕ → ℕ → List ℕ → Option Held → Costing
path_costing n version bytes held = record {
  stops = n;
  fits = held_fits n held;
  start = λ i. 0;
  weight = λ p j i. time_in version bytes j i;
}
