-- `times::table_from` meets its contract: judged first, then written, and after a refusal the table is as it was.
use Rattle.std.proofs.Common.{rules, refl, ◌≡◌, ℕ, Err, sym, ap, ◌∙◌}
use Rattle.base.specs.Refusal.{refusal_number}
use Rattle.base.specs.Outcome.{said}
use Rattle.base.proofs.Outcome.{done-good, done-refused}
use Rattle.path.specs.Path.{stop_in, stops_in}
use Rattle.path.proofs.JudgeLaws.{JudgedBody, body-good}
use Rattle.times.specs.Table.{table_of}
use Rattle.times.proofs.Table.{roomy, roomy-count, square-table, path-unroomed, path-unjudged, path-accepted, table-refused, table-made}
use Rattle.times.proofs.table_from.Goals as goal

pub returns-in_err-judge_size : goal.returns-in_err-judge_size
returns-in_err-judge_size c =
    let handed : c.from_residual.result ≡ Err c.in_err-judge_size.field-0.0 = search rules in
    table-refused _ _ _ (refusal_number c.in_err-judge_size.field-0.0) (ap said handed) (path-unroomed _ _ _ _ _ (sym c.in_err-judge_size.ensures))

pub returns-in_err-judge : goal.returns-in_err-judge
returns-in_err-judge c =
    let handed : c.from_residual-in_err-judge.result ≡ Err c.in_err-judge.field-0.0 = search rules in
    let bad = done-refused _ (refusal_number c.in_err-judge.field-0.0) c.in_err-judge.ensures in
    table-refused _ _ _ _ (ap said handed) (path-unjudged _ _ _ _ _ (sym c.in_ok-judge_size.ensures) bad)

pub invariant_of-judged : goal.invariant_of-judged
invariant_of-judged c =
    let p = c.args.path in
    let j : JudgedBody p.bytes.now p.version p.k = body-good _ _ _ (done-good _ c.in_ok-judge.ensures) in
    record { there = refl; good = rw (roomy-count _ _ _ c.in_ok-judge_size.ensures c.stop_count.ensures) j.range }

pub write_rows-requires : goal.write_rows-requires
write_rows-requires c =
    rw (roomy-count _ _ _ c.in_ok-judge_size.ensures c.stop_count.ensures)
    (roomy _ _ c.in_ok-judge_size.ensures).square

pub returns : goal.returns
returns c =
    let p = c.args.path in
    let j : JudgedBody p.bytes.now p.version p.k = body-good _ _ _ (done-good _ c.in_ok-judge.ensures) in
    let count = roomy-count _ _ _ c.in_ok-judge_size.ensures c.stop_count.ensures in
    let accepted = path-accepted p.bytes.now p.version p.k _ (sym c.in_ok-judge_size.ensures) j in
    let long = square-table p.k _ (λ i. stop_in p.version i p.bytes.now) (roomy _ _ c.in_ok-judge_size.ensures).square in
    table-made _ _ _ _ accepted long (c.write_rows.ensures ∙ ap (λ (n : ℕ). table_of (stops_in p.version n p.bytes.now)) count)
