-- Laws of the exported draws.
use mathlib.Core.Path.{◌≡◌, refl, ap, ◌∙◌}
use mathlib.Core.Bool.{Bool, true, false, cond}
use Prim.Native.Nat.{ℕ, zero, suc}
use lib.Dec.{ltb, eqb}
use lib.IntN.{pos}
use Rattle.std.specs.Prelude.{Option, Some, None, Result, Ok, Err}
use Rattle.std.specs.Result.{result_unwrap_or}
use Rattle.base.specs.declared.Refusal.{Refusal}
use Rattle.base.specs.Outcome.{said}
use Rattle.stop.specs.declared.Stop.{Stop}
use Rattle.stop.specs.Stop.{coordinate, zero_stop}
use Rattle.path.specs.Draw.{Draw}
use Rattle.reader.specs.Draws.{answered, draw_answer}
use Rattle.signed.specs.Result.{itself, signed}
use Rattle.exports.specs.Values.{verdict, drawn_verdict, field_of}

-- a draw's verdict is what it answers
pub drawn-verdict : (r : Result (Option Stop) Refusal) → signed drawn_verdict (said r) ≡ signed itself (verdict (answered r))
unfolding signed verdict
drawn-verdict (Ok (Some s)) = refl
drawn-verdict (Ok None) = refl
drawn-verdict (Err e) = refl

-- every field of the stop of zeros is 0
zero-place : (i : ℕ) → coordinate zero_stop i ≡ pos 0
zero-place zero = refl
zero-place (suc zero) = refl
zero-place (suc (suc zero)) = refl
zero-place (suc (suc (suc i))) = refl

either : (b : Bool) → cond b (pos 0) (pos 0) ≡ pos 0
either true = refl
either false = refl

pub zero-field : (field : ℕ) → field_of field zero_stop ≡ pos 0
unfolding field_of
zero-field field = rw (zero-place field, either (eqb field 5), either (eqb field 4), either (eqb field 3), either (ltb field 3))

-- the stop that was drawn, or the stop of zeros
abbrev pub stop_or_zero : Option Stop → Stop
stop_or_zero (Some s) = s
stop_or_zero None = zero_stop

-- its fields are those of what was drawn
pub drawn-field : (field : ℕ) (r : Result (Option Stop) Refusal) (d : Draw) (o : Option Stop) → answered r ≡ d → o ≡ result_unwrap_or r None → field_of field (stop_or_zero o) ≡ field_of field (draw_answer d).stop
unfolding draw_answer
drawn-field field r d o e u =
    ap (λ (x : Option Stop). field_of field (stop_or_zero x)) u ∙ ap (field_of field) (same r) ∙ ap (λ (x : Draw). field_of field (draw_answer x).stop) e
  where
    same : (r : Result (Option Stop) Refusal) → stop_or_zero (result_unwrap_or r None) ≡ (draw_answer (answered r)).stop
    same (Ok (Some s)) = refl
    same (Ok None) = refl
    same (Err e) = refl
