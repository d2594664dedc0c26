-- `reader::draw_number` meets its contract: before turn i the reader made i draws, each a stop; an answer that is no stop is every later one.
use Rattle.std.proofs.Common.{rules, ◌≡◌, Err, Ok, Option, Some, None, refl, sym, ap, ◌∙◌, arith}
use mathlib.Core.Bool.{true≢false}
use Rattle.std.specs.Prelude.{is_some, not, false}
use Rattle.stop.specs.declared.Stop.{Stop}
use Rattle.path.specs.Draw.{ended}
use Rattle.reader.specs.Draws.{answered, is_stop, after_draws}
use Rattle.reader.proofs.ReaderLaws.{draw-here, draw-stays, draw-more}
use Rattle.reader.proofs.draws.draw_number.Goals as goal

-- an answer that holds no stop is the end
none-ends : (o : Option Stop) → is_some o ≡ false → answered (Ok o) ≡ ended
none-ends None e = refl
none-ends (Some s) e = absurd (true≢false e)

pub loop-i-init : goal.loop-i-init
unfolding after_draws
loop-i-init c = (omega arith, refl)

pub returns-in_err-draw : goal.returns-in_err-draw
returns-in_err-draw c =
    let handed : c.from_residual.result ≡ Err c.in_err-draw.field-0.0 = search rules in
    ap answered handed
    ∙ c.in_err-draw.ensures.0
    ∙ draw-stays c.args.bytes c.args.highest c.loop-i._i _ c.loop-i.reader c.open-reader.ensures c.loop-i.invariant.1 c.args.d c.loop-i.invariant.0 (ap is_stop (sym c.in_err-draw.ensures.0))

pub returns-then-is_none : goal.returns-then-is_none
returns-then-is_none c =
    let over : answered (Ok c.in_ok-draw.field-0) ≡ ended = none-ends c.in_ok-draw.field-0 (c.is_none.ensures ∙ ap not c.if-is_none.true) in
    sym over
    ∙ c.in_ok-draw.ensures.0
    ∙ draw-stays c.args.bytes c.args.highest c.loop-i._i _ c.loop-i.reader c.open-reader.ensures c.loop-i.invariant.1 c.args.d c.loop-i.invariant.0 (ap is_stop (sym c.in_ok-draw.ensures.0 ∙ over))

pub loop-i-preserved : goal.loop-i-preserved
loop-i-preserved c =
    (omega arith, draw-more c.args.bytes c.args.highest c.loop-i._i _ c.loop-i.reader c.open-reader.ensures c.loop-i.invariant.1 _ c.draw.ensures.1)

pub returns : goal.returns
returns c =
    c.draw-2.ensures.0 ∙ draw-here c.args.bytes c.args.highest c.loop-i._i _ c.loop-i.reader c.open-reader.ensures c.loop-i.invariant.1 c.args.d (omega arith)
