-- `filled::are_flags` meets its contract.
use mathlib.Core.Path.{◌∙◌}
use lib.Dec.{leb}
use Rattle.std.proofs.Common.{rules, tests}
use Rattle.std.proofs.lemmas.Iterator.{YieldsList-from_slice}
use Rattle.std.proofs.lemmas.Iterator.Search.{all_from_yields_List}
use Rattle.filled.proofs.Flags.{flags-are}
use Rattle.filled.proofs.are_flags.Goals as goal

pub returns : goal.returns
returns c =
    all_from_yields_List (λ b. leb b 1) _ _ _ c.all.ensures.ran (YieldsList-from_slice c.args.bytes.now cc) (λ x b q k. search (rules, tests)) ∙ flags-are c.args.bytes.now
