-- `screen::update::exchange` meets its contract: the halves of the fork's block are swapped, then the sums updated.
use native.Mathlib.Omega.{arith}
use Rattle.screen.proofs.Updating.{half-before, block-fits, place-few, block-long, now-exchanged, now-judged, now-between, now-updated, now-sums}
use Rattle.screen.proofs.update.exchange.Goals as goal

pub overflow_sub-p : goal.overflow_sub-p
overflow_sub-p c = half-before _ _ c.requires.0 _ c.requires.1 c.requires.2 _ _ c.place_between-p.ensures c.reach-half.ensures

pub overflow_add-p : goal.overflow_add-p
overflow_add-p c = omega (arith, place-few _ _ c.requires.0 _ c.requires.1 c.requires.2 _ _ c.place_between-p.ensures c.reach-half.ensures)

pub offset_bounds-order-p : goal.offset_bounds-order-p
offset_bounds-order-p c = omega (arith, place-few _ _ c.requires.0 _ c.requires.1 c.requires.2 _ _ c.place_between-p.ensures c.reach-half.ensures)

pub slice_bounds-swap_halves-end : goal.slice_bounds-swap_halves-end
slice_bounds-swap_halves-end c = omega (arith, block-fits _ _ c.requires.0 _ c.requires.1 c.requires.2 _ _ c.place_between-p.ensures c.reach-half.ensures, half-before _ _ c.requires.0 _ c.requires.1 c.requires.2 _ _ c.place_between-p.ensures c.reach-half.ensures)

pub swap_halves-requires : goal.swap_halves-requires
swap_halves-requires c = block-long _ _ c.requires.0 _ c.requires.1 c.requires.2 _ _ c.place_between-p.ensures c.reach-half.ensures

pub invariant_of-update_sums : goal.invariant_of-update_sums
invariant_of-update_sums c =
    record { judged = now-judged _ _ c.requires.0 _ c.requires.1 c.requires.2 _ _ c.place_between-p.ensures c.reach-half.ensures _ c.swap_halves.ensures }

pub update_sums-requires : goal.update_sums-requires
update_sums-requires c =
    let found = c.place_between-p.ensures in
    let is = c.reach-half.ensures in (
      c.requires.1,
      c.requires.2,
      now-between _ _ c.requires.0 _ c.requires.1 c.requires.2 _ _ found is _ c.swap_halves.ensures,
      now-updated _ _ c.requires.0 _ c.requires.1 c.requires.2 _ _ found is _ c.swap_halves.ensures _ _ c.requires.3 c.requires.4,
    )

pub returns : goal.returns
returns c =
    let found = c.place_between-p.ensures in
    let is = c.reach-half.ensures in (
      now-exchanged _ _ c.requires.0 _ c.requires.1 c.requires.2 _ _ found is _ c.swap_halves.ensures,
      now-sums _ _ c.requires.0 _ c.requires.1 c.requires.2 _ _ found is _ c.swap_halves.ensures _ _ _ c.update_sums.ensures,
    )
