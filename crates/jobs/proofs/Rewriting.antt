-- Rewriting a path: after the head and the job's own test it is the rewriting of the stops.
use mathlib.Core.Path.{◌≡◌, sym, ap, ◌∙◌}
use mathlib.Core.List.{List}
use Prim.Native.Nat.{ℕ}
use Rattle.base.specs.Refusal.{wrong_version}
use Rattle.base.specs.Outcome.{Outcome, refuses, need, and_then, giving}
use Rattle.base.proofs.Outcome.{giving-then}
use Rattle.path.specs.Path.{Path, path, read_path, known_version, body_after_head}
use Rattle.path.specs.Written.{write_stops, rewrite_after_head}
use Rattle.jobs.specs.Limit.{small_enough}
use Rattle.jobs.specs.Rewrite.{rewrite_file}

pub rewrite-refused : (bytes : List ℕ) (highest version room n : ℕ) → read_path bytes highest small_enough ≡ refuses n → rewrite_file bytes highest version room ≡ refuses n
unfolding rewrite_file
rewrite-refused bytes highest version room n e = rw e

pub rewrite-after : (given bytes : List ℕ) (highest version room was k : ℕ) → given ≡ bytes → read_path bytes highest small_enough ≡ giving (path was k) (body_after_head bytes was k) → rewrite_after_head given was k version room ≡ rewrite_file bytes highest version room
unfolding rewrite_file rewrite_after_head
rewrite-after given bytes highest version room was k same e =
    let then : Path → Outcome (List ℕ) = λ p. need (known_version version) wrong_version (write_stops version p.k room p.stops) in
    rw same (sym (ap (λ (o : Outcome Path). and_then o then) e ∙ giving-then (path was k) then (body_after_head bytes was k)))
