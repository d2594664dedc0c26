-- `times::fill::write_rows` meets its contract: the rows in fours, and then the others.
use mathlib.Core.Path.{◌≡◌, ◌∙◌}
use mathlib.Core.List.{List}
use Prim.Native.Nat.{ℕ, ◌*◌}
use lib.ListN.{length}
use Rattle.base.specs.Lists.{tabulate}
use Rattle.base.proofs.Lists.{length-tabulate}
use Rattle.stop.specs.declared.Stop.{Stop}
use Rattle.times.specs.Rows.{filled}
use Rattle.times.specs.Table.{entry_of, table_of}
use Rattle.times.proofs.Written.{filled-all}
use Rattle.times.proofs.fill.write_rows.Goals as goal

-- all rows are the table
whole : (n : ℕ) (f : ℕ → Stop) (t₀ t : List ℕ) → length t₀ ≡ n * n → t ≡ filled t₀ n (entry_of (tabulate n f)) n → t ≡ table_of (tabulate n f)
unfolding table_of
whole n f t₀ t l e = rw (length-tabulate n f) (e ∙ filled-all t₀ n (entry_of (tabulate n f)) l)

pub returns : goal.returns
returns g c = whole _ _ _ _ c.requires (c.write_rest.ensures _ c.write_fours.ensures)
