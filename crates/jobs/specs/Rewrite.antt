-- 'path bytes rewritten in another version'
use Rattle.std.specs.Prelude.{List, ℕ, length, Result}
use Rattle.base.specs.Refusal.{wrong_version}
use Rattle.base.specs.Outcome.{Outcome, need, and_then}
use Rattle.base.specs.Buffer.{Unsigned, SharedUnsigned, at_entry, at_exit, contents}
use Rattle.base.specs.declared.Refusal.{Refusal}
use Rattle.path.specs.Path.{read_path, known_version}
use Rattle.path.specs.Written.{write_stops, BytesAreWritten}
use Rattle.jobs.specs.Limit.{small_enough}

-- the path is read first; 'the version to be written is tested after that and need only be 4 or 5' (or 6, M-102); 13; 'a rewritten path's output is
-- tested last'
unfoldable pub rewrite_file : (bytes : List ℕ) (highest version room : ℕ) → Outcome (List ℕ)
rewrite_file bytes highest version room =
    and_then (read_path bytes highest small_enough) (λ p. need (known_version version) wrong_version (write_stops version p.k room p.stops))

-- the promise, of the call's parameters
abbrev pub RewritesFile : SharedUnsigned → ℕ → ℕ → Unsigned → Result ℕ Refusal → Type 0
RewritesFile path highest version out r =
    BytesAreWritten (rewrite_file (contents path) highest version (length (at_entry out))) (at_entry out) (at_exit out) r
