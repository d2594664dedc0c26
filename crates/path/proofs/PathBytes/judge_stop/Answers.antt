-- `path::PathBytes::judge_stop` meets its contract: what is no stop's record is refused as a record, and a stop's fields are judged as a stop's are.
use Rattle.std.proofs.Common.{◌≡◌, refl, sym, ap, ◌∙◌, Bool, ℕ, ◌+◌, ◌-◌, min, List, eqb, length, drop, arith}
use Rattle.std.proofs.lemmas.List.{length-drop}
use lib.Seq.{drop-drop}
use borrow.Author.Tests.{eqb-true, eqb-false}
use Rattle.base.specs.Outcome.{number, done}
use Rattle.base.proofs.Outcome.{refused}
use Rattle.records.specs.Record.{record_length, take_record}
use Rattle.stop.specs.declared.Stop.{Stop}
use Rattle.stop.specs.Stop.{judge_stop}
use Rattle.path.specs.Path.{stop_of, stop_place}
use Rattle.path.proofs.PlaceLaws.{drop_min, size-range}
use Rattle.path.proofs.StopLaws.{stop-refused, stop-judged, taken-present}
use Rattle.path.proofs.PathBytes.judge_stop.Goals as goal

-- the place that was asked leaves the bytes from the stop's place on, and the test tells of these
module _ (version i : ℕ) (bytes : List ℕ) (at : ℕ) (e : at ≡ min (stop_place version i) (8 + length bytes)) where
  here : drop at bytes ≡ drop (stop_place version i) bytes
  here = rw e (drop_min (stop_place version i) (8 + length bytes) bytes (omega arith))

  told : (r : Bool) → r ≡ eqb (number (take_record 2 (record_length 2 version 0) (drop at bytes))) 0 → r ≡ eqb (number (take_record 2 (record_length 2 version 0) (drop (stop_place version i) bytes))) 0
  told r f = f ∙ ap (λ (s : List ℕ). eqb (number (take_record 2 (record_length 2 version 0) s)) 0) here

pub returns-then-not-is_stop : goal.returns-then-not-is_stop
returns-then-not-is_stop c =
    let p = c.args.self in let s = drop (stop_place p.version c.args.i) p.bytes.now in
    let bad : number (take_record 2 (record_length 2 p.version 0) s) ≡ 0 → ⊥ = eqb-false _ 0 (sym (told p.version c.args.i p.bytes.now _ c.place-at.ensures _ c.is_stop.ensures) ∙ c.if-not-is_stop.true) in
    let record_refused = refused (take_record 2 (record_length 2 p.version 0) s) _ refl bad in
    c.judge_place.ensures ∙ ap done record_refused ∙ sym (ap done (stop-refused p.version _ s record_refused))

pub stop_at-requires : goal.stop_at-requires
stop_at-requires c =
    let p = c.args.self in let s = drop (stop_place p.version c.args.i) p.bytes.now in
    let size : length s ≡ length p.bytes.now - stop_place p.version c.args.i = length-drop (stop_place p.version c.args.i) p.bytes.now in
    let good : number (take_record 2 (record_length 2 p.version 0) s) ≡ 0 = eqb-true _ 0 (sym (told p.version c.args.i p.bytes.now _ c.place-at.ensures _ c.is_stop.ensures) ∙ c.if-not-is_stop.false) in
    omega (arith, c.place-at.ensures, taken-present p.version s good, (size-range p.version).0)

pub returns : goal.returns
returns c =
    let p = c.args.self in let s = drop (stop_place p.version c.args.i) p.bytes.now in
    let good : number (take_record 2 (record_length 2 p.version 0) s) ≡ 0 = eqb-true _ 0 (sym (told p.version c.args.i p.bytes.now _ c.place-at.ensures _ c.is_stop.ensures) ∙ c.if-not-is_stop.false) in
    c.judge.ensures
    ∙ ap (λ (st : Stop). done (judge_stop st)) (c.stop_at.ensures ∙ ap (stop_of p.version) (sym (drop-drop 4 c.place-at.result p.bytes.now) ∙ ap (drop 4) (here p.version c.args.i p.bytes.now _ c.place-at.ensures)))
    ∙ sym (ap done (stop-judged p.version s good))
