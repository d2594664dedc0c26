-- `times::source::Judged::stop` meets its contract: a stop that was judged is in range.
use Rattle.times.proofs.Table.{source-good}
use Rattle.times.proofs.source.Judged.stop.Goals as goal

pub returns-clause-good : goal.returns-clause-good
returns-clause-good g c =
    let s = c.args.self.now in source-good s.count (g.S.StopSource.stop_at s.source) c.args.i _ s.good c.requires c.read.ensures
