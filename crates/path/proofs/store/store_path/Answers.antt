-- `path::store::store_path` meets its contract: the head, the stops and the end one after the other.
use mathlib.Core.Path.{◌≡◌, ap, ◌∙◌}
use Prim.Native.Nat.{ℕ, ◌+◌, ◌*◌, ◌^◌, ◌≤◌}
use native.Mathlib.Omega.{arith}
use Rattle.base.proofs.Lists.{length-tabulate}
use Rattle.path.specs.Path.{stop_size}
use Rattle.path.proofs.PlaceLaws.{place_is, largest_stop}
use Rattle.path.proofs.StoreLaws.{stored-path}
use Rattle.path.proofs.WrittenLaws.{bytes-range, size_is}
use Rattle.path.proofs.store.store_path.Goals as goal

pub put_head-requires : goal.put_head-requires
put_head-requires g c = let f = c.args.form in omega (arith, size_is f.version f.k, c.requires)

pub store_records-requires : goal.store_records-requires
store_records-requires g c =
    let f = c.args.form in rw c.count-count.ensures (omega (arith, place_is f.version (2 ^ f.k), size_is f.version f.k, c.requires, c.put_head.auto.out))

pub overflow_mul-count : goal.overflow_mul-count
overflow_mul-count g c =
    let f = c.args.form in let product : c.count-count.result * c.stop_size.result ≤ 1024 * largest_stop = rw (c.count-count.ensures, c.stop_size.ensures) (bytes-range f.version f.k f.small) in
    omega (arith, product)

pub overflow_add-count : goal.overflow_add-count
overflow_add-count g c =
    let f = c.args.form in let product : c.count-count.result * c.stop_size.result ≤ 1024 * largest_stop = rw (c.count-count.ensures, c.stop_size.ensures) (bytes-range f.version f.k f.small) in
    omega (arith, product)

pub returns : goal.returns
returns g c =
    let f = c.args.form in let product : c.count-count.result * c.stop_size.result ≡ 2 ^ f.k * stop_size f.version = rw (c.count-count.ensures, c.stop_size.ensures) in
    stored-path _ _ _ _ _ _ _ _ (length-tabulate _ _) c.requires (ap (λ (n : ℕ). 8 + n) product)
    c.put_head.ensures
    (c.store_records.ensures ∙ rw c.count-count.ensures)
    c.put_end.ensures
