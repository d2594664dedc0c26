-- `path::PathBytes::is_stop` meets its contract: room for the record, the length and the kind that it says.
use Rattle.std.proofs.Common.{◌∙◌, ap, eqb, arith}
use borrow.Author.Tests.{ne_eqb}
use Rattle.records.proofs.LengthLaws.{stop-length}
use Rattle.records.proofs.Versions.{later-few}
use Rattle.path.proofs.StopLaws.{told-short, told-length, told-kind}
use Rattle.path.proofs.PathBytes.is_stop.Goals as goal

pub overflow_add-at-2 : goal.overflow_add-at-2
overflow_add-at-2 c = omega (arith, c.length-long.ensures, stop-length c.args.self.version, later-few c.args.self.version)

pub returns-then-self-at : goal.returns-then-self-at
returns-then-self-at c = told-short _ _ _ _ c.length-long.ensures c.if-self-at.true

pub word16-requires-then-word16-long : goal.word16-requires-then-word16-long
word16-requires-then-word16-long c = omega (arith, c.length-long.ensures, stop-length c.args.self.version)

pub returns-then-word16-long : goal.returns-then-word16-long
returns-then-word16-long c =
    let a = c.args in ap (eqb c.word16-then-word16-long.result) c.number.ensures
    ∙ told-kind a.self.version a.at a.self.bytes.now _ c.length-long.ensures _ c.word16.ensures _ c.if-self-at.false c.if-word16-long.true c.word16-then-word16-long.ensures

pub returns-else-word16-long : goal.returns-else-word16-long
returns-else-word16-long c =
    let a = c.args in ne_eqb _ _ c.if-word16-long.false
    ∙ told-length a.self.version a.at a.self.bytes.now _ c.length-long.ensures _ c.word16.ensures c.if-word16-long.false
