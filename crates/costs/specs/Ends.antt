-- The last stops of tours, as a program weighs them: one after another, each by a row of its own graph.
use Rattle.std.specs.Prelude.{true, ℕ}
use Rattle.walks.specs.Walk.{Graph}
use Rattle.walks.specs.Best.{Found, scan, step}
use Rattle.walks.specs.Rows.{told, line}

-- stop e as the last one: the cost of the best walk of n moves to it in its own graph, from a row
abbrev pub ending : (ℕ → Graph) → ℕ → ℕ → ℕ → Found ℕ
ending G mid n e = told (λ q. e) (line (G e) mid n e)

-- the least cost over the last stops below N, and the stop it is found for; of equals the smaller stop
unfoldable pub best_end : (ℕ → Graph) → ℕ → ℕ → ℕ → Found ℕ
best_end G mid n N = scan (λ e. step true 0 (λ r. r) (ending G mid n e)) N
