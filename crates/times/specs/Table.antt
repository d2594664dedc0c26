-- The table of all n² travel times, 'row "from", column "to"', and what the call that makes it promises.
use Rattle.std.specs.Prelude.{◌≡◌, List, ℕ, ◌*◌, ◌^◌, leb, eqb, length, get_or, Result}
use Rattle.base.specs.declared.Refusal.{Refusal}
use Rattle.base.specs.Refusal.{wrong_k, wrong_size}
use Rattle.base.specs.Outcome.{Outcome, gives, need, and_then, giving, done, said, after}
use Rattle.base.specs.Buffer.{Unsigned, at_entry, at_exit}
use Rattle.base.specs.Size.{max_k}
use Rattle.base.specs.Lists.{tabulate}
use Rattle.stop.specs.declared.Stop.{Stop}
use Rattle.stop.specs.Stop.{zero_stop}
use Rattle.stop.specs.Lent.{LentStops, judge_lent}
use Rattle.path.specs.declared.PathBytes.{PathBytes}
use Rattle.path.specs.Path.{body_after_head}
use Rattle.times.specs.Time.{time_between}
use Rattle.times.specs.Rows.{rows}

-- the time from stop number `from` to stop number `to`
unfoldable pub entry_of : List Stop → ℕ → ℕ → ℕ
entry_of stops from to = time_between from to (get_or stops from zero_stop) (get_or stops to zero_stop)

-- the table: entry from × n + to is the time from stop `from` to stop `to`
unfoldable pub table_of : List Stop → List ℕ
table_of stops = rows (length stops) (λ from. tabulate (length stops) (entry_of stops from))

-- a table of `size` places for 2^k stops: k above 10 (5); 'a table not n² long' (8)
unfoldable pub table_room : (k size : ℕ) → Outcome Unit
table_room k size =
    need (leb k max_k) wrong_k
    (need (eqb size (2 ^ k * 2 ^ k)) wrong_size
    (gives tt))

-- the table of 2^k lent stops: then a lent buffer too short (8); 6 in stop order
unfoldable pub make_table : ℕ → LentStops → ℕ → Outcome (List ℕ)
make_table k lent size = and_then (table_room k size) (λ fits. giving table_of (judge_lent (2 ^ k) lent))

-- the table of the 2^k stops of path bytes, for a caller that has read their head: then the version and the stops, in the sequence of
-- 'Every other call: k, lengths, contents'
unfoldable pub table_from : (bytes : List ℕ) (version k size : ℕ) → Outcome (List ℕ)
table_from bytes version k size = and_then (table_room k size) (λ fits. giving table_of (body_after_head bytes version k))

-- the promise of a call that makes the table of an outcome: the answer, and the lent table before and after
pub record TableIsMade (o : Outcome (List ℕ)) (before afterwards : List ℕ) (r : Result Unit Refusal) : Type 0 where
  pub said : said r ≡ done o
  pub left : afterwards ≡ after o (λ table. table) before

-- the same of the parameters of each call
abbrev pub MakesTable : ℕ → LentStops → Unsigned → Result Unit Refusal → Type 0
MakesTable k stops table r = TableIsMade (make_table k stops (length (at_entry table))) (at_entry table) (at_exit table) r

abbrev pub FillsTable : PathBytes → Unsigned → Result Unit Refusal → Type 0
FillsTable path table r =
    TableIsMade (table_from path.bytes.now path.version path.k (length (at_entry table))) (at_entry table) (at_exit table) r
