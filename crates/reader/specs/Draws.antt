-- One draw from a cursor in the bytes of a path, and draws one after another: 'each stop before the end or before the first refused record,
-- then the end or the refusal that a whole reading with long enough buffers gives; later draws repeat it'.
use Rattle.std.specs.Prelude.{◌≡◌, Bool, true, false, cond, List, ℕ, zero, suc, ◌-◌, ◌/◌, ◌^◌, ltb, drop, Option, Some, None, Result, Ok, Err}
use Rattle.std.specs.Borrow.{Bor}
use Rattle.base.specs.declared.Refusal.{Refusal}
use Rattle.base.specs.Refusal.{accepted, refusal_number}
use Rattle.base.specs.Outcome.{Outcome, gives, refuses}
use Rattle.base.specs.Buffer.{Lent, at_entry, at_exit}
use Rattle.stop.specs.declared.Stop.{Stop}
use Rattle.stop.specs.Stop.{zero_stop}
use Rattle.path.specs.Path.{PathHead, read_head, read_stop, read_body, stop_place, stop_size}
use Rattle.path.specs.Draw.{Draw, drawn, ended, draw_refused, last_draw}
use Rattle.reader.specs.declared.Step.{Step}
use Rattle.reader.specs.declared.Reader.{Reader}

-- what a draw answers: a stop, the end where there is none, or the number of a refusal
abbrev pub answered : Result (Option Stop) Refusal → Draw
answered (Ok (Some s)) = drawn s
answered (Ok None) = ended
answered (Err r) = draw_refused (refusal_number r)

-- whether it is a stop
abbrev pub is_stop : Draw → Bool
is_stop (drawn s) = true
is_stop ended = false
is_stop (draw_refused n) = false

-- the same for a caller that takes numbers: a verdict, the refusal's number and the stop
pub record Drawn : Type 0 where
  pub verdict : ℕ
  pub number : ℕ
  pub stop : Stop

-- the verdicts
abbrev pub a_stop : ℕ
a_stop = 0

abbrev pub the_end : ℕ
the_end = 1

abbrev pub a_refusal : ℕ
a_refusal = 2

-- the answer of each case of a draw: its verdict, 'its number, zero in every other result'
unfoldable pub draw_answer : Draw → Drawn
draw_answer (drawn s) = record { verdict = a_stop; number = accepted; stop = s }
draw_answer ended = record { verdict = the_end; number = accepted; stop = zero_stop }
draw_answer (draw_refused n) = record { verdict = a_refusal; number = n; stop = zero_stop }

-- the number of the stop whose record a cursor stands at, or in: so many whole records lie between the head and the cursor
unfoldable pub stop_before : (version at : ℕ) → ℕ
stop_before version at = (at - 8) / stop_size version

-- the draw of a stop's record: the stop, or the refusal
unfoldable pub stop_draw : Outcome Stop → Draw
stop_draw (gives s) = drawn s
stop_draw (refuses n) = draw_refused n

-- the draw at stop i of a path of n stops: the stop's record, and from n on the end's with what follows it
unfoldable pub draw_of : (bytes : List ℕ) (version n i : ℕ) → Draw
draw_of bytes version n i =
    cond (ltb i n)
    (stop_draw (read_stop version (drop (stop_place version i) bytes)))
    (last_draw (read_body version zero (drop (stop_place version n) bytes)))

-- what a draw leaves: its answer, and the cursor and the version for the next draw
pub record Stepped : Type 0 where
  pub draw : Draw
  pub at : ℕ
  pub version : ℕ

abbrev pub stepped : Step → Stepped
stepped s = record { draw = answered s.drawn; at = s.at; version = s.version }

-- the end and a refusal leave the cursor and the version as they are
abbrev pub staying : (at version : ℕ) → Draw → Stepped
staying at version d = record { draw = d; at = at; version = version }

-- after stop i the cursor is where the next record begins, and the version is the path's
unfoldable pub step_of : (at version path i : ℕ) → Draw → Stepped
step_of at version path i (drawn s) = record { draw = drawn s; at = stop_place path (suc i); version = path }
step_of at version path i ended = staying at version ended
step_of at version path i (draw_refused n) = staying at version (draw_refused n)

-- the head decides first
unfoldable pub step_in : (bytes : List ℕ) (at version : ℕ) → Outcome PathHead → Stepped
step_in bytes at version (gives h) =
    let i = stop_before h.version at in
    step_of at version h.version i (draw_of bytes h.version (2 ^ h.k) i)
step_in bytes at version (refuses n) = staying at version (draw_refused n)

-- one draw from a cursor by a reader that knows versions up to this one, whatever the cursor, the version and the bytes are
unfoldable pub step_at : (bytes : List ℕ) (at version : ℕ) → Stepped
step_at bytes at version = step_in bytes at version (read_head bytes version)

-- draw d, counted from 0, of the draws that begin at a cursor
unfoldable pub steps_from : (bytes : List ℕ) (at version d : ℕ) → Stepped
steps_from bytes at version zero = step_at bytes at version
steps_from bytes at version (suc d) =
    let before = steps_from bytes at version d in
    step_at bytes before.at before.version

-- ---- the reader that holds the bytes, the cursor and the version

-- a reader of some bytes that knows versions up to `highest`
abbrev pub opened : (bytes : Bor (List ℕ)) (highest : ℕ) → Reader
opened bytes highest = record { src = bytes; at = 0; version = highest }

-- its next draw
abbrev pub next_step : Reader → Stepped
next_step r = step_at r.src.now r.at r.version

-- and the reader after a draw: the same bytes, with the cursor and the version that the draw left
abbrev pub moved : Reader → Stepped → Reader
moved r s = record { src = r.src; at = s.at; version = s.version }

-- the promise of a draw: its answer, and the reader before and after
abbrev pub DrawsNext : Lent Reader → Result (Option Stop) Refusal → Type 0
DrawsNext r d = (answered d ≡ (next_step (at_entry r)).draw) × (at_exit r ≡ moved (at_entry r) (next_step (at_entry r)))

-- the reader after d draws
unfoldable pub after_draws : Reader → (d : ℕ) → Reader
after_draws r zero = r
after_draws r (suc d) = moved (after_draws r d) (next_step (after_draws r d))
