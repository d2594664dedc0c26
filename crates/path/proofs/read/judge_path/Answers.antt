-- `path::judge_path` meets its contract: the head, the places in the buffers, and the body settle the reading.
use Rattle.std.proofs.Common.{rules, ◌≡◌, Err, Result, sym, ap, ◌∙◌, ℕ, ◌^◌, Bool, true, false}
use Rattle.base.specs.declared.Refusal.{Refusal}
use Rattle.base.specs.Refusal.{refusal_number}
use Rattle.base.specs.Outcome.{gives, need, said, giving}
use Rattle.base.proofs.Size.{stop_count-pow}
use Rattle.stop.specs.Lent.{LentStops, lent, stops_fit}
use Rattle.path.specs.declared.PathBytes.{PathBytes}
use Rattle.path.specs.Bytes.{heading_of}
use Rattle.path.specs.Reading.{heading, stop_room}
use Rattle.path.proofs.JudgeLaws.{head-facts, judged-head, judged-test, judged-body, judged-path}
use Rattle.path.proofs.read.judge_path.Goals as goal

-- what the test of places comes to
room : (l : LentStops) (k n : ℕ) (b : Bool) → n ≡ 2 ^ k → b ≡ stops_fit n l → stop_room l k ≡ need b 8 (gives tt)
room l k n b en eb = rw (← en, ← eb)

pub returns-in_err-path-clause-path : goal.returns-in_err-path-clause-path
returns-in_err-path-clause-path c =
    let handed : c.from_residual.result ≡ Err c.in_err-path.field-0.0 = search rules in
    ap (λ (r : Result PathBytes Refusal). giving heading_of (said r)) handed
    ∙ sym (ap (giving heading) (judged-head _ _ (stop_room (lent c.args.stops)) (refusal_number c.in_err-path.field-0.0) c.in_err-path.ensures.head))

pub returns-then-not-fits-clause-path : goal.returns-then-not-fits-clause-path
returns-then-not-fits-clause-path c =
    let p = c.in_ok-path.path in let e = c.in_ok-path.ensures in let l = lent c.args.stops in
    let count : c.stop_count.result ≡ 2 ^ p.k = c.stop_count.ensures ∙ stop_count-pow p.k (head-facts _ _ (stop_room l) p e.head e.same).small in
    let short : c.fits.result ≡ false = c.if-not-fits.true in
    sym (ap (giving heading) (judged-test _ _ (stop_room l) p e.head e.same 8 (room l p.k _ c.fits.result count c.fits.ensures ∙ rw short)))

pub returns-in_err-judge-clause-path : goal.returns-in_err-judge-clause-path
returns-in_err-judge-clause-path c =
    let p = c.in_ok-path.path in let e = c.in_ok-path.ensures in let l = lent c.args.stops in
    let count : c.stop_count.result ≡ 2 ^ p.k = c.stop_count.ensures ∙ stop_count-pow p.k (head-facts _ _ (stop_room l) p e.head e.same).small in
    let enough : c.fits.result ≡ true = c.if-not-fits.false in
    let handed : c.from_residual-in_err-judge.result ≡ Err c.in_err-judge.field-0.0 = search rules in
    ap (λ (r : Result PathBytes Refusal). giving heading_of (said r)) handed
    ∙ sym (ap (giving heading) (judged-body _ _ (stop_room l) p e.head e.same (room l p.k _ c.fits.result count c.fits.ensures ∙ rw enough) (refusal_number c.in_err-judge.field-0.0) c.in_err-judge.ensures))

pub returns-clause-path : goal.returns-clause-path
returns-clause-path c =
    let p = c.in_ok-path.path in let e = c.in_ok-path.ensures in let l = lent c.args.stops in
    let count : c.stop_count.result ≡ 2 ^ p.k = c.stop_count.ensures ∙ stop_count-pow p.k (head-facts _ _ (stop_room l) p e.head e.same).small in
    let enough : c.fits.result ≡ true = c.if-not-fits.false in
    sym (ap (giving heading) (judged-path _ _ (stop_room l) p e.head e.same (room l p.k _ c.fits.result count c.fits.ensures ∙ rw enough) c.in_ok-judge.ensures).reads)
