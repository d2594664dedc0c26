-- `screen::sums::Ordered::make_sums` meets its contract: the places, then the sums.
use Rattle.screen.proofs.Order.{over-within}
use Rattle.screen.proofs.sums.Ordered.make_sums.Goals as goal

pub returns : goal.returns
returns c = over-within _ _ _ _ _ _ c.write_places.ensures.within c.add_sides.ensures
