-- `filled::run` meets its contract.
use mathlib.Core.Path.{refl, sym, ap, ◌∙◌}
use Prim.Native.Nat.{ℕ, ◌≤◌}
use native.Mathlib.Omega.{arith}
use lib.Count.{ones, ones-le}
use lib.ListN.{length, replicate}
use lib.Seq.{length-take-le}
use Rattle.std.proofs.Common.{rules}
use Rattle.filled.proofs.Judged.{run-list, run-below, run-written}
use Rattle.filled.proofs.run.Goals as goal
use Rattle.filled.proofs.run.Goals.{Start}

-- as many stops are filled as the list has room for
room : (c : Start) → ones c.args.tray.now.filled ≤ length c.args.list.now
room c = let t = c.args.tray.now in omega (arith, ones-le t.n t.filled t.inside, c.requires.buffers.0)

pub wanted_list-total-requires-clause-count : goal.wanted_list-total-requires-clause-count
wanted_list-total-requires-clause-count c =
    (refl, room (goal.at.wanted_list-total-requires-clause-count c).Start)

pub slice_bounds-write_bits-end : goal.slice_bounds-write_bits-end
slice_bounds-write_bits-end c =
    omega (arith, room (goal.at.slice_bounds-write_bits-end c).Start, c.wanted_list-total.auto.list)

pub slice_bounds-write_bits-end-2 : goal.slice_bounds-write_bits-end-2
slice_bounds-write_bits-end-2 c =
    sym (length-take-le _ c.wanted_list-total.new.list (omega (arith, room (goal.at.slice_bounds-write_bits-end-2 c).Start, c.wanted_list-total.auto.list)))

pub write_bits-requires-clause-list : goal.write_bits-requires-clause-list
write_bits-requires-clause-list c =
    let t = c.args.tray.now in
    run-below t _ (run-list t (ones t.filled) c.args.list.now _ refl c.wanted_list-total.ensures.list_after)

pub returns : goal.returns
returns c =
    let t = c.args.tray.now in
    run-written t c.args.list.now c.args.bits.now c.args.work.now _ _ _ _ _ _ refl c.wanted_list-total.ensures.value c.wanted_list-total.ensures.list_after
    (run-list t (ones t.filled) c.args.list.now _ refl c.wanted_list-total.ensures.list_after) c.write_bits.ensures
    (c.fill.ensures.after (search rules) ∙ ap (λ (n : ℕ). replicate n 0) c.wanted_list-total.auto.work)
