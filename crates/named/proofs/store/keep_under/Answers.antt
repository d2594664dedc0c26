-- `named::store::keep_under` meets its contract: the mark, the stops, the sums.
use mathlib.Core.Path.{refl}
use native.Mathlib.Omega.{arith}
use Rattle.named.proofs.Paste.{written-at}
use Rattle.named.proofs.Names.{place_of}
use Rattle.named.proofs.store.keep_under.Goals as goal

pub returns : goal.returns
returns c =
    let p = place_of _ _ _ c.requires.0 c.requires.1 c.requires.2 c.stop_count-n.ensures in (
      refl,
      written-at _ _ _ _ _ _ _ c.copy_over.ensures (omega (arith, p.count, c.requires.3)) p.start p.count,
      written-at _ _ _ _ _ _ _ c.copy_over-2.ensures (omega (arith, p.count, c.requires.4)) p.start p.count,
    )
