-- `times::make_table` meets its contract: judged first, then written, and after a refusal the table is as it was.
use Rattle.std.proofs.Common.{rules, ◌≡◌, ℕ, Err, sym, ap, ◌∙◌}
use Rattle.base.specs.Refusal.{refusal_number}
use Rattle.base.specs.Outcome.{said, number, refuses}
use Rattle.base.proofs.Outcome.{done-good, done-refused}
use Rattle.stop.specs.Lent.{lent, stop_at, first_stops, judge_lent}
use Rattle.stop.proofs.Lent.{judged-lent}
use Rattle.times.specs.Table.{table_of}
use Rattle.times.proofs.Table.{lent-there, roomy, roomy-count, square-table, make-unroomed, make-unjudged, make-accepted, table-refused, table-made}
use Rattle.times.proofs.make_table.Goals as goal

pub returns-in_err-judge_size : goal.returns-in_err-judge_size
returns-in_err-judge_size c =
    let handed : c.from_residual.result ≡ Err c.in_err-judge_size.field-0.0 = search rules in
    table-refused _ _ _ (refusal_number c.in_err-judge_size.field-0.0) (ap said handed) (make-unroomed _ _ _ _ (sym c.in_err-judge_size.ensures))

pub returns-in_err-judge : goal.returns-in_err-judge
returns-in_err-judge c =
    let handed : c.from_residual-in_err-judge.result ≡ Err c.in_err-judge.field-0.0 = search rules in
    let count = roomy-count _ _ _ c.in_ok-judge_size.ensures c.stop_count-count.ensures in
    let bad : judge_lent c.stop_count-count.result (lent c.args.stops) ≡ refuses (refusal_number c.in_err-judge.field-0.0) = done-refused _ _ c.in_err-judge.ensures in
    table-refused _ _ _ _ (ap said handed) (make-unjudged _ _ _ _ (sym c.in_ok-judge_size.ensures) (rw count at bad))

pub invariant_of-judged : goal.invariant_of-judged
invariant_of-judged c =
    let judged : number (judge_lent c.stop_count-count.result (lent c.args.stops)) ≡ 0 = done-good _ c.in_ok-judge.ensures in
    record { there = lent-there _ _ judged; good = (judged-lent _ _ judged).in_range }

pub write_rows-requires : goal.write_rows-requires
write_rows-requires c =
    rw (roomy-count _ _ _ c.in_ok-judge_size.ensures c.stop_count-count.ensures)
    (roomy _ _ c.in_ok-judge_size.ensures).square

pub returns : goal.returns
returns c =
    let count = roomy-count _ _ _ c.in_ok-judge_size.ensures c.stop_count-count.ensures in
    let judged : number (judge_lent c.stop_count-count.result (lent c.args.stops)) ≡ 0 = done-good _ c.in_ok-judge.ensures in
    let accepted = make-accepted c.args.k (lent c.args.stops) _ (sym c.in_ok-judge_size.ensures) (rw count at judged) in
    let long = square-table c.args.k _ (stop_at (lent c.args.stops)) (roomy _ _ c.in_ok-judge_size.ensures).square in
    table-made _ _ _ _ accepted long (c.write_rows.ensures ∙ ap (λ (n : ℕ). table_of (first_stops n (lent c.args.stops))) count)
