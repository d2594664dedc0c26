-- More bytes than the longest accepted path cannot change the output: the program reads one byte more than that and no further.
use mathlib.Core.Path.{◌≡◌, ap}
use mathlib.Core.List.{List}
use Prim.Native.Nat.{ℕ, suc}
use lib.ListN.{take}
use Rattle.base.specs.Outcome.{Outcome, giving}
use Rattle.path.specs.Path.{Path}
use Rattle.path.proofs.Prefix.{longer-read}
use Rattle.all_orders_output.specs.Text.{all_orders}
use Rattle.all_orders_output.specs.Output.{program_highest, print_max_k, few_enough, printed, output_for}
use Rattle.all_orders_output.proofs.Printing.{passes-few}

-- the bytes of the longest path of k up to 3, in the newest version
abbrev pub longest_path : ℕ
longest_path = 188

-- THE LAW: the first bytes, one more than the longest path has, settle the output
pub longer-same : (input : List ℕ) → output_for (take (suc longest_path) input) ≡ output_for input
unfolding output_for
longer-same input = ap (λ (o : Outcome Path). printed (giving all_orders o)) (longer-read print_max_k input program_highest few_enough passes-few)
