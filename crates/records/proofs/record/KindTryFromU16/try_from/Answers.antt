-- `Kind::try_from` meets its contract: 0 and a number above 7 are no kind.
use mathlib.Core.Path.{refl}
use Prim.Native.Nat.{◌<◌}
use native.Mathlib.Omega.{arith}
use borrow.Author.Tests.{le-leb, lt-leb}
use Rattle.records.specs.Record.{is_kind}
use Rattle.records.proofs.record.KindTryFromU16.try_from.Goals as goal

pub returns-in-0 : goal.returns-in-0
unfolding is_kind
returns-in-0 c = (rw c.in-0.in-0-own.keys8, refl)

pub returns-in-0-2 : goal.returns-in-0-2
unfolding is_kind
returns-in-0-2 c =
    let n = c.args.number in
    let r = c.in-0.in-0-own.rest in
    let above : 7 < n = omega (arith, r.1, r.0.1, r.0.0.1, r.0.0.0.1, r.0.0.0.0.1, r.0.0.0.0.0.1, r.0.0.0.0.0.0.1, r.0.0.0.0.0.0.0.1) in
    (rw (le-leb 1 n (omega arith), lt-leb n 7 above), refl)
