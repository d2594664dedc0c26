-- `records::record_length` meets its contract: the rule over the whole table, at the entry of the kind and version.
use mathlib.Core.Path.{◌≡◌, sym}
use Prim.Native.Nat.{ℕ, ◌≤◌, ◌<◌}
use borrow.Author.Tests.{le-leb, lt-leb}
use Rattle.records.specs.Record.{later_fields, blend_since, dwell_since}
use Rattle.records.proofs.LengthLaws.{lengths, length-unknown, above-unknown, table-length}
use Rattle.records.proofs.record.record_length.Goals as goal

-- the version's column
none : (version : ℕ) → version < blend_since → later_fields version ≡ 0
unfolding later_fields
none version h = rw (lt-leb _ _ h)

one : (version : ℕ) → blend_since ≤ version → version < dwell_since → later_fields version ≡ 1
unfolding later_fields
one version h l = rw (le-leb _ _ h, lt-leb _ _ l)

two : (version : ℕ) → blend_since ≤ version → dwell_since ≤ version → later_fields version ≡ 2
unfolding later_fields
two version h l = rw (le-leb _ _ h, le-leb _ _ l)

pub returns-then-kind-gt7 : goal.returns-then-kind-gt7
returns-then-kind-gt7 c = sym (length-unknown _ _ 0 (above-unknown _ c.if-kind-gt7.true))

pub returns-then-version-lt-BLEND_SINCE : goal.returns-then-version-lt-BLEND_SINCE
unfolding lengths
returns-then-version-lt-BLEND_SINCE c = rw (none _ c.if-version-lt-BLEND_SINCE.true) at (table-length c.args.kind c.args.version c.if-kind-gt7.false)

pub returns-then-version-lt-DWELL_SINCE : goal.returns-then-version-lt-DWELL_SINCE
unfolding lengths
returns-then-version-lt-DWELL_SINCE c =
    rw (one _ c.if-version-lt-BLEND_SINCE.false c.if-version-lt-DWELL_SINCE.true) at (table-length c.args.kind c.args.version c.if-kind-gt7.false)

pub returns : goal.returns
unfolding lengths
returns c =
    rw (two _ c.if-version-lt-BLEND_SINCE.false c.if-version-lt-DWELL_SINCE.false) at (table-length c.args.kind c.args.version c.if-kind-gt7.false)
