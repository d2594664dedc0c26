-- What the private functions ask and promise.
use Rattle.std.specs.Prelude.{List, ℕ, ◌^◌, take}
use Rattle.base.specs.Outcome.{Outcome, giving}
use Rattle.path.specs.Path.{path, body_after_head}
use Rattle.tree.specs.Total.{entry}
use Rattle.all_orders_output.specs.declared.lines.SmallTable.{SmallTable}
use Rattle.all_orders_output.specs.declared.output.Output.{Output}
use Rattle.all_orders_output.specs.Text.{all_orders}

-- the text that an output holds
abbrev pub text_of : Output → List ℕ
text_of out = take out.count out.bytes

-- the times of a table
abbrev pub times_in : SmallTable → ℕ → ℕ → ℕ
times_in table = entry (2 ^ table.k) table.times.now

-- the bytes of the longest line
abbrev pub longest_line : ℕ
longest_line = 28

-- the text of the stops after a head
abbrev pub orders_after_head : (bytes : List ℕ) (version k : ℕ) → Outcome (List ℕ)
orders_after_head bytes version k = giving (λ ss. all_orders (path version k ss)) (body_after_head bytes version k)
