-- What the reading calls answer, and what they leave in the lent buffers.
use Rattle.std.specs.Prelude.{◌≡◌, List, ℕ, ◌^◌, Result}
use Rattle.base.specs.Refusal.{wrong_size}
use Rattle.base.specs.Outcome.{Outcome, gives, need, giving, said, left}
use Rattle.base.specs.Buffer.{Unsigned, Signed, SharedUnsigned, contents}
use Rattle.stop.specs.Lent.{LentStops, stops_before, left_stops, over_stops, stops_fit}
use Rattle.base.specs.declared.Refusal.{Refusal}
pub use Rattle.path.specs.declared.Heading.{Heading}
use Rattle.path.specs.Path.{Path, read_path}

-- the values of a reading
abbrev pub heading : Path → Heading
heading p = record { version = p.version; k = p.k }

-- 'then lent lengths (8)': coordinates need 3n places, speeds, blends and dwells n each
abbrev pub stop_room : LentStops → ℕ → Outcome Unit
stop_room lent k = need (stops_fit (2 ^ k) lent) wrong_size (gives tt)

-- reading path bytes into lent buffers
abbrev pub read_into : (bytes : List ℕ) (highest : ℕ) (lent : LentStops) → Outcome Path
read_into bytes highest lent = read_path bytes highest (stop_room lent)

-- the promise: the answer, and the lent buffers before and after
pub record PathIsRead (bytes : List ℕ) (highest : ℕ) (before afterwards : LentStops) (r : Result Heading Refusal) : Type 0 where
  pub said : said r ≡ giving heading (read_into bytes highest before)
  pub left : afterwards ≡ left (read_into bytes highest before) (λ p. over_stops p.stops before) before

-- the same of the call's parameters
abbrev pub ReadsPath : SharedUnsigned → ℕ → Signed → Unsigned → Unsigned → Unsigned → Result Heading Refusal → Type 0
ReadsPath bytes highest coords speeds blends dwells r =
    PathIsRead (contents bytes) highest (stops_before coords speeds blends dwells) (left_stops coords speeds blends dwells) r
