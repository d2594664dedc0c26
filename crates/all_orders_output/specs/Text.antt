-- The text of all orders: 'A line is the total, then the stops by place, in decimal, each after one space, ended by byte 10.'
use Rattle.std.specs.Prelude.{List, [], ◌∷◌, ◌++◌, ℕ, ◌*◌}
use Rattle.path.specs.Path.{Path}
use Rattle.times.specs.Rows.{rows}
use Rattle.times.specs.Table.{entry_of}
use Rattle.tree.specs.Order.{order_of}
use Rattle.tree.specs.Total.{total}
use Rattle.orders.specs.Allowed.{set_count}
use Rattle.all_orders_output.specs.Decimal.{decimal}

-- the byte between numbers, and the byte that ends a line
abbrev pub space : ℕ
space = 32

abbrev pub line_end : ℕ
line_end = 10

-- numbers 'each after one space'
unfoldable pub spaced : List ℕ → List ℕ
spaced [] = []
spaced (s ∷ ss) = space ∷ decimal s ++ spaced ss

-- a line: the total, then the stops by place
unfoldable pub line_of : (total : ℕ) (order : List ℕ) → List ℕ
line_of total order = decimal total ++ spaced order ++ line_end ∷ []

-- the line of the order that the set F of forks gives, by times t
unfoldable pub order_line : (k : ℕ) (t : ℕ → ℕ → ℕ) (F : ℕ) → List ℕ
order_line k t F = line_of (total t (order_of k F)) (order_of k F)

-- the lines of the first m sets 'by increasing fork bits read as one number with fork v worth 2^v': bit 0 is no fork, so these are the sets
-- 0, 2, 4, .. 2 (m - 1)
unfoldable pub lines_of : (k : ℕ) (t : ℕ → ℕ → ℕ) (m : ℕ) → List ℕ
lines_of k t m = rows m (λ j. order_line k t (2 * j))

-- the text of a path: the lines of all sets, by the travel times between its stops
unfoldable pub all_orders : Path → List ℕ
all_orders p = lines_of p.k (entry_of p.stops) (set_count p.k)

-- 'A refusal prints only its number and byte 10'
unfoldable pub refusal_line : (number : ℕ) → List ℕ
refusal_line n = decimal n ++ line_end ∷ []
