-- `records::field` meets its contract: each byte, and 0 where there is none.
use Rattle.std.proofs.Common.{◌∙◌, arith}
use Rattle.records.proofs.ByteLaws.{whole, part}
use Rattle.records.proofs.field.field.Goals as goal

pub returns-in-Some : goal.returns-in-Some
returns-in-Some g c = c.in-Some.ensures.cases.same ∙ rw c.after-t.ensures (whole g.row.N _ (rw (← c.after-t.ensures) c.in-Some.ensures.cases.enough))

pub returns : goal.returns
returns g c = rw (c.copy_from_slice.ensures.after, c.after-t.ensures) (part g.row.N _ (rw (← c.after-t.ensures) (omega (arith, c.in_default.ensures.cases))))
