-- `screen::judge::judge_path` meets its contract: the head, the places and the body settle the reading.
use mathlib.Core.Path.{◌≡◌, sym, ap, ◌∙◌}
use Prim.Native.Nat.{◌^◌}
use native.Mathlib.Omega.{arith}
use Rattle.std.proofs.lemmas.Result.{err_from_is_err_and}
use Rattle.base.specs.Outcome.{giving}
use Rattle.base.proofs.Size.{stop_count-pow}
use Rattle.path.specs.Reading.{heading}
use Rattle.path.proofs.JudgeLaws.{head-facts, judged-head, judged-test, judged-body, judged-path}
use Rattle.screen.specs.Screen.{places_room}
use Rattle.screen.proofs.Screen.{places-few, places-good}
use Rattle.screen.proofs.judge.judge_path.Goals as goal

pub returns-in_err-path-clause-path : goal.returns-in_err-path-clause-path
returns-in_err-path-clause-path c =
    let p = err_from_is_err_and c.from_residual.result c.from_residual.ensures.1 in
    rw (p.1, p.2) (sym (ap (giving heading) (judged-head _ _ _ _ c.in_err-path.ensures.head)))

pub returns-then-places-stop_count-clause-path : goal.returns-then-places-stop_count-clause-path
returns-then-places-stop_count-clause-path c =
    let a = c.args in
    let e = c.in_ok-path.ensures in
    let count : c.stop_count.result ≡ 2 ^ c.in_ok-path.path.k = c.stop_count.ensures ∙ stop_count-pow _ (head-facts a.bytes.now a.highest (places_room a.places) c.in_ok-path.path e.head e.same).small in
    sym (ap (giving heading) (judged-test _ _ _ c.in_ok-path.path e.head e.same _ (places-few _ _ (omega (arith, count, c.if-places-stop_count.true)))))

pub returns-in_err-judge-clause-path : goal.returns-in_err-judge-clause-path
returns-in_err-judge-clause-path c =
    let a = c.args in
    let e = c.in_ok-path.ensures in
    let count : c.stop_count.result ≡ 2 ^ c.in_ok-path.path.k = c.stop_count.ensures ∙ stop_count-pow _ (head-facts a.bytes.now a.highest (places_room a.places) c.in_ok-path.path e.head e.same).small in
    let fits = places-good a.places c.in_ok-path.path.k (omega (arith, count, c.if-places-stop_count.false)) in
    let p = err_from_is_err_and c.from_residual-in_err-judge.result c.from_residual-in_err-judge.ensures.1 in
    rw (p.1, p.2) (sym (ap (giving heading) (judged-body _ _ _ c.in_ok-path.path e.head e.same fits _ c.in_err-judge.ensures)))

pub returns-clause-path : goal.returns-clause-path
returns-clause-path c =
    let a = c.args in
    let e = c.in_ok-path.ensures in
    let count : c.stop_count.result ≡ 2 ^ c.in_ok-path.path.k = c.stop_count.ensures ∙ stop_count-pow _ (head-facts a.bytes.now a.highest (places_room a.places) c.in_ok-path.path e.head e.same).small in
    let fits = places-good a.places c.in_ok-path.path.k (omega (arith, count, c.if-places-stop_count.false)) in
    sym (ap (giving heading) (judged-path _ _ _ c.in_ok-path.path e.head e.same fits c.in_ok-judge.ensures).reads)
