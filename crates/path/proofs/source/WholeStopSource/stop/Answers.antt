-- `Whole::stop` meets its contract: the records of the stops below the count lie within the bytes.
use Rattle.path.proofs.PlaceLaws.{place-within}
use Rattle.path.proofs.source.WholeStopSource.stop.Goals as goal

pub stop_within-requires : goal.stop_within-requires
stop_within-requires c = place-within _ _ _ _ c.if-i-self.true c.args.self.holds
