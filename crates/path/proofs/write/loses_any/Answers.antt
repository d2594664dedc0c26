-- `path::write::loses_any` meets its contract: a test of each number.
use Rattle.std.proofs.Common.{refl, ◌∙◌, arith, rules, tests}
use Rattle.std.proofs.lemmas.Iterator.{YieldsList-from_range}
use Rattle.std.proofs.lemmas.Iterator.Search.{any_from_yields_List}
use Rattle.path.specs.Written.{loses_field}
use Rattle.path.proofs.WriteLaws.{any_of}
use Rattle.path.proofs.write.loses_any.Goals as goal

pub returns : goal.returns
returns g c =
    let a = c.args in any_from_yields_List (λ i. loses_field a.version (g.S.StopSource.stop_at a.source i)) _ _ _ c.any.ensures.ran (YieldsList-from_range 0 a.count a.count refl (omega arith)) (λ x b q k. search (rules, tests))
    ∙ any_of a.version a.count (g.S.StopSource.stop_at a.source)
