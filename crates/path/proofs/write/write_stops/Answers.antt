-- `path::write::write_stops` meets its contract: 13, then 8, and then what is written.
use Rattle.std.proofs.Common.{refl, sym, ◌∙◌, ◌<◌, ◌≤◌, length}
use Rattle.base.proofs.Lists.{length-tabulate}
use Rattle.path.specs.Path.{path_size}
use Rattle.path.proofs.WrittenLaws.{length-written}
use Rattle.path.proofs.WriteLaws.{stops-lost, stops-short, stops-fit, bytes-refused, bytes-done}
use Rattle.path.proofs.write.write_stops.Goals as goal

pub returns-then-loses : goal.returns-then-loses
returns-then-loses g c = bytes-refused _ _ _ 13 refl (stops-lost _ _ _ _ (sym c.requires ∙ c.if-loses.true))

pub returns-then-out-size : goal.returns-then-out-size
returns-then-out-size g c =
    let f = c.args.form in let short : length c.args.out.now < path_size f.version f.k = rw c.size.ensures at c.if-out-size.true in
    bytes-refused _ _ _ 8 refl (stops-short _ _ _ _ (length-tabulate _ _) (sym c.requires ∙ c.if-loses.false) short)

pub returns : goal.returns
returns g c =
    let f = c.args.form in let enough : path_size f.version f.k ≤ length c.args.out.now = rw c.size.ensures at c.if-out-size.false in
    bytes-done _ _ _ _ _ (stops-fit _ _ _ _ (length-tabulate _ _) (sym c.requires ∙ c.if-loses.false) enough)
    (c.size-2.ensures ∙ sym (length-written _ _ _ (length-tabulate _ _)))
    c.store_path.ensures
