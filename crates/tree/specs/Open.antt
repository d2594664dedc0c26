-- What document 01 means by the wanted order and by demand 3: the open total of a table, and all sets of forks.
use Rattle.std.specs.Prelude.{List, ℕ}
use Rattle.tree.specs.Total.{total}
use Rattle.tree.specs.Wanted.{every}
use Rattle.tree.specs.Wanted as any

-- 'The wanted order has the least total of all 2^(n−1) allowed orders'
abbrev pub wanted : ℕ → (ℕ → ℕ → ℕ) → List ℕ
wanted k t = any.wanted k (total t) every

-- Demand 3 about an order o that is returned with a total c
abbrev pub Shortest : ℕ → (ℕ → ℕ → ℕ) → List ℕ → ℕ → Type 0
Shortest k t o c = any.Shortest k (total t) every o c
