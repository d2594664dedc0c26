-- 'The stops can also be drawn one after another from the file's bytes: each stop before the end or before the first refused record, then
-- the end or the refusal that a whole reading with long enough buffers gives; later draws repeat it.'
use Rattle.std.specs.Prelude.{cond, List, [], ◌∷◌, ℕ, zero, suc, ◌^◌, ltb, length, get_or}
use Rattle.base.specs.Outcome.{Outcome, gives, refuses, giving, value}
use Rattle.records.specs.Record.{Taken, take_record, record_length, stop_kind}
use Rattle.stop.specs.declared.Stop.{Stop}
use Rattle.stop.specs.Stop.{in_range, zero_stop}
use Rattle.path.specs.Path.{PathHead, read_head, read_path, any_size, stop_of}

-- what one draw gives
pub data Draw : Type 0 where
  drawn : Stop → Draw
  ended : Draw
  draw_refused : (number : ℕ) → Draw

-- a stop's record, and then those of the rest
unfoldable pub good_then : (version : ℕ) (next : List ℕ → List Stop) → Outcome Taken → List Stop
good_then version next (gives t) = cond (in_range (stop_of version t.content)) (stop_of version t.content ∷ next t.rest) []
good_then version next (refuses n) = []

-- of so many stops those before the first refused record
unfoldable pub good_stops : (version count : ℕ) (s : List ℕ) → List Stop
good_stops version zero s = []
good_stops version (suc n) s = good_then version (good_stops version n) (take_record stop_kind (record_length stop_kind version 0) s)

-- the stops that are drawn after a head
unfoldable pub drawn_of : Outcome PathHead → List Stop
drawn_of o = value [] (giving (λ (h : PathHead). good_stops h.version (2 ^ h.k) h.rest) o)

-- the end, or the refusal, of a whole reading
unfoldable pub last_draw : {A : Type 0} → Outcome A → Draw
last_draw (gives a) = ended
last_draw (refuses n) = draw_refused n

-- the d-th draw, counted from 0
unfoldable pub draw_at : (bytes : List ℕ) (highest d : ℕ) → Draw
draw_at bytes highest d =
    let ss = drawn_of (read_head bytes highest) in
    cond (ltb d (length ss)) (drawn (get_or ss d zero_stop)) (last_draw (read_path bytes highest any_size))
