-- `filled::judge_lengths` meets its contract.
use mathlib.Core.Path.{◌≡◌}
use Prim.Native.Nat.{◌^◌}
use borrow.Author.Tests.{le-leb, lt-leb, eq-eqb, ne_eqb}
use Rattle.filled.specs.Filled.{lengths_first, list_fits}
use Rattle.filled.proofs.Judged.{small-count}
use Rattle.filled.proofs.judge_lengths.Goals as goal
use Rattle.filled.proofs.judge_lengths.Goals.{
  then-table-n-via-then-table-n,
  then-table-n-via-else-table-n+then-empties-n,
  then-table-n-via-else-table-n+else-empties-n+then-list-n,
  then-table-n-via-else-table-n+else-empties-n+else-list-n+then-bits-n,
  then-table-n-via-else-table-n+else-empties-n+else-list-n+else-bits-n+then-work-n,
}

pub returns-then-table-n : goal.returns-then-table-n
unfolding lengths_first list_fits
returns-then-table-n c =
    let count : c.stop_count-n.result ≡ 2 ^ c.args.k = (small-count _ _ c.if-k-gt-MAX_FILLED_K.false c.stop_count-n.ensures).0 in
    rw (le-leb _ _ c.if-k-gt-MAX_FILLED_K.false, ← count)
    (elim c.then-table-n.branch [
      | then-table-n-via-then-table-n w ↦ rw (ne_eqb _ _ w.if-table-n.true)
      | then-table-n-via-else-table-n+then-empties-n w ↦ rw (eq-eqb _ _ w.if-table-n.false, lt-leb _ _ w.if-empties-n.true)
      | then-table-n-via-else-table-n+else-empties-n+then-list-n w ↦ rw (eq-eqb _ _ w.if-table-n.false, le-leb _ _ w.if-empties-n.false, lt-leb _ _ w.if-list-n.true)
      | then-table-n-via-else-table-n+else-empties-n+else-list-n+then-bits-n w ↦
          rw (eq-eqb _ _ w.if-table-n.false, le-leb _ _ w.if-empties-n.false, le-leb _ _ w.if-list-n.false, lt-leb _ _ w.if-bits-n.true)
      | then-table-n-via-else-table-n+else-empties-n+else-list-n+else-bits-n+then-work-n w ↦
          rw (eq-eqb _ _ w.if-table-n.false, le-leb _ _ w.if-empties-n.false, le-leb _ _ w.if-list-n.false, le-leb _ _ w.if-bits-n.false, lt-leb _ _ w.if-work-n.true)
    ])

pub returns : goal.returns
unfolding lengths_first list_fits
returns c =
    let count : c.stop_count-n.result ≡ 2 ^ c.args.k = (small-count _ _ c.if-k-gt-MAX_FILLED_K.false c.stop_count-n.ensures).0 in
    rw (le-leb _ _ c.if-k-gt-MAX_FILLED_K.false, ← count, eq-eqb _ _ c.if-table-n.false, le-leb _ _ c.if-empties-n.false, le-leb _ _ c.if-list-n.false, le-leb _ _ c.if-bits-n.false, le-leb _ _ c.if-work-n.false)
