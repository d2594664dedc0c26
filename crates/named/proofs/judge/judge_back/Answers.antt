-- `named::judge::judge_back` meets its contract: the screen's records, the name, the mark, and then what was kept.
use Rattle.base.proofs.Outcome.{done-good}
use Rattle.named.proofs.Names.{place_of, keep-judged, back-rest}
use Rattle.named.proofs.judge.judge_back.Goals as goal

pub returns : goal.returns
returns c =
    let r = keep-judged _ _ _ _ _ (done-good _ c.in_ok-judge_keep.ensures) in
    let place = place_of _ _ _ c.requires.0 r.1 r.2 c.stop_count.ensures in
    back-rest _ _ _ _ _ _ _ _ _ _ place r.0 r.1 r.2 c.if-kept-m-ne-USED.false c.requires.2 c.requires.3 c.judge_records.ensures
