-- `reader::Reader::draw` meets its contract: the head decides first, and then the record that the cursor stands at.
use Rattle.std.proofs.Common.{rules, ◌≡◌, Err, Ok, true, false, refl, sym, ap, ◌∙◌, arith}
use Rattle.base.specs.Refusal.{refusal_number}
use Rattle.path.specs.Draw.{draw_refused}
use Rattle.reader.specs.Draws.{answered, is_stop, draw_of, staying}
use Rattle.reader.proofs.ReaderLaws.{told-stop, promise, step-other, below, near, step-stop}
use Rattle.reader.proofs.StepLaws.{step-refused}
use Rattle.reader.proofs.Reader.draw.Goals as goal

pub returns-in_err-path : goal.returns-in_err-path
returns-in_err-path c =
    let r = c.args.self.now in let handed : c.from_residual.result ≡ Err c.in_err-path.field-0.0 = search rules in
    let n = refusal_number c.in_err-path.field-0.0 in
    promise r _ _ (staying r.at r.version (draw_refused n)) (step-refused r.src.now r.at r.version n (sym c.in_err-path.ensures.head)) (ap answered handed) refl

pub returns-in_err-drawn : goal.returns-in_err-drawn
returns-in_err-drawn c =
    let r = c.args.self.now in let p = c.in_ok-path.path in let e = c.in_ok-path.ensures in
    let handed : c.from_residual-in_err-drawn.result ≡ Err c.in_err-drawn.field-0.0 = search rules in
    promise r _ _ _ (step-other r.src.now r.at r.version p e.head e.same _ _ c.stop_before-i.ensures c.stop_count.ensures (ap is_stop (sym c.in_err-drawn.ensures))) (ap answered handed ∙ c.in_err-drawn.ensures) refl

pub overflow_add-self : goal.overflow_add-self
overflow_add-self c =
    let r = c.args.self.now in let p = c.in_ok-path.path in let e = c.in_ok-path.ensures in
    let stop : is_stop (draw_of p.bytes.now p.version c.stop_count.result c.stop_before-i.result) ≡ true = ap is_stop (sym c.in_ok-drawn.ensures) ∙ told-stop c.in_ok-drawn.drawn ∙ sym c.is_some.ensures ∙ c.if-is_some.true in
    omega (arith, below r.src.now r.at r.version p e.head e.same _ _ c.stop_before-i.ensures c.stop_count.ensures stop)

pub overflow_mul-self : goal.overflow_mul-self
overflow_mul-self c =
    let r = c.args.self.now in let p = c.in_ok-path.path in let e = c.in_ok-path.ensures in
    let stop : is_stop (draw_of p.bytes.now p.version c.stop_count.result c.stop_before-i.result) ≡ true = ap is_stop (sym c.in_ok-drawn.ensures) ∙ told-stop c.in_ok-drawn.drawn ∙ sym c.is_some.ensures ∙ c.if-is_some.true in
    omega (arith, near r.src.now r.at r.version p e.head e.same _ _ c.stop_before-i.ensures c.stop_count.ensures stop c.stop_size.result c.stop_size.ensures)

pub overflow_add-self-then-is_some : goal.overflow_add-self-then-is_some
overflow_add-self-then-is_some c =
    let r = c.args.self.now in let p = c.in_ok-path.path in let e = c.in_ok-path.ensures in
    let stop : is_stop (draw_of p.bytes.now p.version c.stop_count.result c.stop_before-i.result) ≡ true = ap is_stop (sym c.in_ok-drawn.ensures) ∙ told-stop c.in_ok-drawn.drawn ∙ sym c.is_some.ensures ∙ c.if-is_some.true in
    omega (arith, near r.src.now r.at r.version p e.head e.same _ _ c.stop_before-i.ensures c.stop_count.ensures stop c.stop_size.result c.stop_size.ensures)

pub returns-then-is_some : goal.returns-then-is_some
returns-then-is_some c =
    let r = c.args.self.now in let p = c.in_ok-path.path in let e = c.in_ok-path.ensures in
    let stop : is_stop (draw_of p.bytes.now p.version c.stop_count.result c.stop_before-i.result) ≡ true = ap is_stop (sym c.in_ok-drawn.ensures) ∙ told-stop c.in_ok-drawn.drawn ∙ sym c.is_some.ensures ∙ c.if-is_some.true in
    promise r _ (Ok c.in_ok-drawn.drawn) _ (step-stop r.src.now r.at r.version p e.head e.same _ _ c.stop_before-i.ensures c.stop_count.ensures stop c.stop_size.result c.stop_size.ensures) c.in_ok-drawn.ensures refl

pub returns-else-is_some : goal.returns-else-is_some
returns-else-is_some c =
    let r = c.args.self.now in let p = c.in_ok-path.path in let e = c.in_ok-path.ensures in
    let other : is_stop (draw_of p.bytes.now p.version c.stop_count.result c.stop_before-i.result) ≡ false = ap is_stop (sym c.in_ok-drawn.ensures) ∙ told-stop c.in_ok-drawn.drawn ∙ sym c.is_some.ensures ∙ c.if-is_some.false in
    promise r _ (Ok c.in_ok-drawn.drawn) _ (step-other r.src.now r.at r.version p e.head e.same _ _ c.stop_before-i.ensures c.stop_count.ensures other) c.in_ok-drawn.ensures refl
