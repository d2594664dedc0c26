-- `path::write::rewrite_path` meets its contract: the body, the version to be written, and then the output.
use Rattle.std.proofs.Common.{rules, ◌≡◌, Err, sym, ap, ◌∙◌, ℕ, ◌^◌, ◌≤◌, List, length, arith}
use borrow.Author.Tests.{le-ltb}
use Rattle.base.specs.Refusal.{refusal_number}
use Rattle.base.specs.Outcome.{said}
use Rattle.path.specs.Path.{stop_place}
use Rattle.path.proofs.JudgeLaws.{JudgedBody, body-done}
use Rattle.path.proofs.WriteLaws.{none-newer, rewrite-body, rewrite-unformed, rewrite-output, bytes-refused}
use Rattle.path.proofs.write.rewrite_path.Goals as goal
use Rattle.path.proofs.write.rewrite_path.Goals.{then-wanted-path, else-wanted-path}

pub returns-in_err-judge : goal.returns-in_err-judge
returns-in_err-judge c =
    let handed : c.from_residual.result ≡ Err c.in_err-judge.field-0.0 = search rules in
    bytes-refused _ _ _ (refusal_number c.in_err-judge.field-0.0) (ap said handed) (rewrite-body _ _ _ _ _ _ c.in_err-judge.ensures)

pub returns-in_err-form : goal.returns-in_err-form
returns-in_err-form c =
    let p = c.args.path in let judged = body-done p.bytes.now p.version p.k c.in_ok-judge.ensures in
    let handed : c.from_residual-in_err-form.result ≡ Err c.in_err-form.field-0.0 = search rules in
    bytes-refused _ _ _ (refusal_number c.in_err-form.field-0.0) (ap said handed) (rewrite-unformed _ _ _ _ _ judged _ c.in_err-form.ensures.judged)

-- the records of the stops lie within judged bytes
holds : (bytes : List ℕ) (version k n m : ℕ) → JudgedBody bytes version k → n ≡ 2 ^ m → m ≡ k → stop_place version n ≤ length bytes
holds bytes version k n m judged en em = rw (en, em) (omega (arith, judged.size))

pub invariant_of-whole : goal.invariant_of-whole
invariant_of-whole c =
    let p = c.args.path in record { holds = holds p.bytes.now p.version p.k _ _ (body-done p.bytes.now p.version p.k c.in_ok-judge.ensures) c.count.ensures c.in_ok-form.ensures.same.1 }

pub invariant_of-whole-2 : goal.invariant_of-whole-2
invariant_of-whole-2 c =
    let p = c.args.path in record { holds = holds p.bytes.now p.version p.k _ _ (body-done p.bytes.now p.version p.k c.in_ok-judge.ensures) c.count.ensures c.in_ok-form.ensures.same.1 }

pub write_stops-requires : goal.write_stops-requires
write_stops-requires c =
    let p = c.args.path in let f = c.in_ok-form.form in let same = c.in_ok-form.ensures.same in
    elim c.if-wanted-path.branch [ then-wanted-path w ↦ w.loses-is ∙ w.loses_any-loses.ensures ∙ rw (w.count-then-wanted-path.ensures, same.0) | else-wanted-path w ↦ w.loses-is ∙ le-ltb _ _ w.if-wanted-path.false ∙ sym (none-newer p.version f.version (2 ^ f.k) p.bytes.now (rw same.0 w.if-wanted-path.false) (rw (sym c.count.ensures) (holds p.bytes.now p.version p.k c.count.result f.k (body-done p.bytes.now p.version p.k c.in_ok-judge.ensures) c.count.ensures same.1))) ]

pub returns : goal.returns
returns c =
    let p = c.args.path in let good = c.in_ok-form.ensures in
    let writes = rewrite-output p.bytes.now p.version p.k c.args.wanted (length c.args.out.now) (body-done p.bytes.now p.version p.k c.in_ok-judge.ensures) good.judged in
    rw writes (rw (good.same.0, good.same.1) at c.write_stops.ensures)
