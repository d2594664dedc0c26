-- `orders::fork_bits` meets its contract: everything is judged before a byte is written.
use mathlib.Core.Path.{◌∙◌}
use Rattle.std.proofs.lemmas.Result.{err_from_is_err_and}
use Rattle.orders.proofs.Calls.{bits-done, bits-refused}
use Rattle.orders.proofs.fork_bits.Goals as goal

pub returns-in_err-judge_lent : goal.returns-in_err-judge_lent
returns-in_err-judge_lent c = let p = err_from_is_err_and c.from_residual.result c.from_residual.ensures.1 in rw (p.1, p.2) (bits-refused _ _ _ _ (c.in_err-judge_lent.ensures ∙ bits-done _ _ _ _ c.byte_count.ensures))
