-- The values that calls give, as one number each.
use Rattle.std.specs.Prelude.{cond, ℕ, ◌+◌, ◌*◌, ltb, eqb, ℤ, pos, Option, Some, None}
use Rattle.base.specs.Outcome.{Outcome, gives, refuses}
use Rattle.base.specs.Buffer.{SharedSigned, SharedUnsigned}
use Rattle.stop.specs.declared.Stop.{Stop}
use Rattle.stop.specs.declared.Stops.{Stops}
use Rattle.stop.specs.Stop.{coordinate}
use Rattle.path.specs.declared.Heading.{Heading}
use Rattle.path.specs.declared.PathBytes.{PathBytes}
use Rattle.path.specs.Draw.{Draw, drawn, ended, draw_refused}
use Rattle.planner.specs.declared.Planned.{Planned}
use Rattle.planner.specs.declared.Foretold.{Foretold}
use Rattle.path_plan.specs.declared.PathPlanned.{PathPlanned}
use Rattle.filled.specs.declared.ListPlanned.{ListPlanned}
use Rattle.reader.specs.Draws.{a_stop, the_end}
use Rattle.fork_cost.specs.declared.ForkCost.{ForkCost}
use Rattle.fork_cost.specs.Cost.{Reason, Cost, dearer, tie, told}
use Rattle.signed.specs.Result.{at_most}

-- the stops of four lent buffers that are only read
abbrev pub lent_stops : SharedSigned → SharedUnsigned → SharedUnsigned → SharedUnsigned → Stops
lent_stops coords speeds blends dwells = record { coords = coords.entry; speeds = speeds.entry; blends = blends.entry; dwells = dwells.entry }

-- the bytes of a path, with the version and k that their head gave
abbrev pub path_bytes : SharedUnsigned → (version k : ℕ) → PathBytes
path_bytes bytes version k = record { bytes = bytes.entry; version = version; k = k }

-- of a plan by a table: its total, and its weighings
abbrev pub total_of : Planned → ℕ
total_of p = p.total

abbrev pub weighings_of : Planned → ℕ
weighings_of p = p.weighings

-- of what k foretells: the bytes, and the weighings
abbrev pub bytes_needed : Foretold → ℕ
bytes_needed f = f.bytes

abbrev pub weighings_needed : Foretold → ℕ
weighings_needed f = f.weighings

-- ---- a version and k in one number, and a total above them

-- k has 16 bits, and the version 4
abbrev pub version_unit : ℕ
version_unit = 65536

abbrev pub total_unit : ℕ
total_unit = 1048576

-- the largest total that stands beside them: 42 bits
abbrev pub most_packed : ℕ
most_packed = 4398046511103

unfoldable pub packed : (total version k : ℕ) → ℕ
packed total version k = at_most most_packed total * total_unit + version * version_unit + k

-- of a path that was read
abbrev pub heading : Heading → ℕ
heading h = packed 0 h.version h.k

-- and of one that was planned
abbrev pub planned : PathPlanned → ℕ
planned p = packed p.total p.version p.k

-- ---- the length of a list, and its total above it

-- a list has at most 64 stops
abbrev pub length_unit : ℕ
length_unit = 128

abbrev pub most_length : ℕ
most_length = 127

-- the largest total that stands beside a length: 56 bits
abbrev pub most_listed : ℕ
most_listed = 72057594037927935

unfoldable pub listed : (total length : ℕ) → ℕ
listed total length = at_most most_listed total * length_unit + at_most most_length length

-- of a list that was planned
abbrev pub list_value : ListPlanned → ℕ
list_value p = listed p.total p.length

-- ---- what a fork costs the other way, field by field

-- 0 is the fork's state, 1 the least total the other way, 2 how much more that is, 3 the place of a tie and 1 more, or 0 for dearer; any other is 0
abbrev pub state_field : ℕ
state_field = 0

abbrev pub opposite_field : ℕ
opposite_field = 1

abbrev pub more_field : ℕ
more_field = 2

abbrev pub reason_field : ℕ
reason_field = 3

-- the reason as one number: a place is counted from 0, so that of a tie is above 0
unfoldable pub reason_number : Reason → ℕ
reason_number dearer = 0
reason_number (tie place) = place + 1

unfoldable pub cost_part : (field state total more reason : ℕ) → ℕ
cost_part field state total more reason =
    cond (eqb field state_field) state
    (cond (eqb field opposite_field) total
    (cond (eqb field more_field) more
    (cond (eqb field reason_field) reason
    0)))

abbrev pub cost_field : (field : ℕ) → Cost → ℕ
cost_field field c = cost_part field c.state c.total c.more (reason_number c.reason)

-- the same of an answer
abbrev pub told_field : (field : ℕ) → ForkCost → ℕ
told_field field c = cost_field field (told c)

-- ---- draws

-- the verdict of a draw: 0 a stop, 1 the end, or the refusal
unfoldable pub verdict : Draw → Outcome ℕ
verdict (drawn s) = gives a_stop
verdict ended = gives the_end
verdict (draw_refused n) = refuses n

-- the same of an answer that is no refusal
abbrev pub drawn_verdict : Option Stop → ℕ
drawn_verdict (Some s) = a_stop
drawn_verdict None = the_end

-- a field of a stop: 0 to 2 are x, y, z, 3 is the speed, 4 the blend, 5 the dwell, and any other is 0
abbrev pub speed_field : ℕ
speed_field = 3

abbrev pub blend_field : ℕ
blend_field = 4

abbrev pub dwell_field : ℕ
dwell_field = 5

unfoldable pub field_of : (field : ℕ) → Stop → ℤ
field_of field s =
    cond (ltb field speed_field) (coordinate s field)
    (cond (eqb field speed_field) (pos s.speed)
    (cond (eqb field blend_field) (pos s.blend)
    (cond (eqb field dwell_field) (pos s.dwell)
    (pos 0))))
