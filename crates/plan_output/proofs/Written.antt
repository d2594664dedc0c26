-- The output from the answer of the job: the file, or the record of its refusal, over the front of zeros.
use mathlib.Core.Path.{◌≡◌, refl, sym, ap, ◌∙◌}
use mathlib.Core.List.{List, ◌++◌}
use Prim.Native.Nat.{ℕ, ◌^◌, ◌≤◌}
use native.Mathlib.Decide.{dec_le}
use native.Mathlib.Omega.{arith}
use lib.ListN.{length, length-append, length-replicate}
use borrow.Author.Tests.{le-leb, lt-leb}
use Rattle.std.specs.Prelude.{Result, Ok, Err}
use Rattle.base.specs.declared.Refusal.{Refusal}
use Rattle.base.specs.Refusal.{refusal_number}
use Rattle.base.specs.Outcome.{Outcome, gives, refuses, giving, said, after, over}
use Rattle.base.proofs.Outcome.{gives-not-refuses, refused-giving, length_over, over-front}
use Rattle.records.specs.Field.{bytes_of}
use Rattle.records.specs.Put.{put}
use Rattle.records.specs.Record.{record_bytes}
use Rattle.records.proofs.FieldLaws.{length-bytes_of}
use Rattle.records.proofs.PutLaws.{put_two}
use Rattle.path.proofs.JudgeLaws.{path-tests}
use Rattle.path.proofs.WrittenLaws.{put-over}
use Rattle.order_file.specs.File.{file_size}
use Rattle.order_file.proofs.Putting.{record-parts}
use Rattle.jobs.specs.Limit.{job_max_k, small_enough}
use Rattle.jobs.specs.Plan.{plan_test, wanted_file, plan_file, FileIsPlanned}
use Rattle.jobs.proofs.Limits.{pow-le-64}
use Rattle.jobs.proofs.Together.{plan-size}
use Rattle.plan_output.specs.Output.{program_highest, longest_file, zeros, refused_bytes, written, program_file, output_for, IsOutput}

-- ---- the room is enough for every k up to 6

room-enough : (k : ℕ) → plan_test longest_file k ≡ small_enough k
room-enough k = go (dec_le k job_max_k)
  where
    go : Dec (k ≤ job_max_k) → plan_test longest_file k ≡ small_enough k
    go (yes s) = let n = pow-le-64 k s in rw (le-leb k job_max_k s, le-leb (file_size (2 ^ k)) longest_file (omega arith))
    go (no s) = rw (lt-leb k job_max_k (omega arith))

-- so what the job comes to is what the program's output is made of
same-file : (input : List ℕ) → plan_file input program_highest longest_file ≡ program_file input
same-file input = ap (giving wanted_file) (path-tests input program_highest (plan_test longest_file) small_enough room-enough)

length-zeros : length zeros ≡ longest_file
length-zeros = length-replicate {A = ℕ} longest_file 0

-- ---- a refusal's record

pub length-refused : (n : ℕ) → length (refused_bytes n) ≡ 6
unfolding refused_bytes record_bytes
length-refused n = rw (length-append, length-append, length-bytes_of, length-bytes_of, length-bytes_of)

-- its length and kind, and then the number, over zeros
pub refusal-put : (n long : ℕ) (bytes : List ℕ) → long ≡ 4 → bytes ≡ put (put zeros 0 (bytes_of 2 long ++ bytes_of 2 7)) 4 (bytes_of 2 n) → bytes ≡ over (refused_bytes n) zeros
unfolding refused_bytes
refusal-put n long bytes l e =
    let head : List ℕ = bytes_of 2 long ++ bytes_of 2 7 in
    let four : length head ≡ 4 = rw (length-append, length-bytes_of, length-bytes_of) in
    let two : length (bytes_of 2 n) ≡ 2 = length-bytes_of 2 n in
    let room : length (refused_bytes n) ≤ length zeros = rw (length-refused n, length-zeros) (omega arith) in
    e
    ∙ put_two zeros 0 head (bytes_of 2 n) _ _ 4 (rw length-zeros (omega arith)) (omega arith) refl refl
    ∙ ap (put zeros 0) (record-parts 7 long (bytes_of 2 n) (omega arith))
    ∙ put-over zeros (refused_bytes n) room

-- ---- the output

-- bytes over the front of zeros
output : (input text bytes : List ℕ) (count : ℕ) → output_for input ≡ text → bytes ≡ over text zeros → count ≡ length text → count ≤ longest_file → IsOutput input bytes count
output input text bytes count o e s h =
    let long : length (over text zeros) ≡ length zeros = length_over text zeros (rw length-zeros (omega arith)) in
    record {
      whole = rw o e;
      size = rw o s;
      front = rw (e, o) (over-front count text zeros (sym s));
      within = rw (e, long, length-zeros) h;
    }

module _ (input before bytes : List ℕ) (a : Result ℕ Refusal) (blank : before ≡ zeros) (planned : FileIsPlanned input program_highest before bytes a) where
  -- the job's outcome, by the room that it had
  outcome : plan_file input program_highest (length before) ≡ program_file input
  outcome = rw (blank, length-zeros) (same-file input)

  -- what the job answered
  answered : said a ≡ giving length (program_file input)
  answered = rw outcome at planned.said

  -- a file that was written is no longer than the bytes
  pub file-small : (count : ℕ) → a ≡ Ok count → count ≤ longest_file
  file-small count e = by (program_file input) refl (rw e at answered)
    where
      by : (o : Outcome (List ℕ)) → program_file input ≡ o → gives count ≡ giving length o → count ≤ longest_file
      by (gives file) m s = let size : count ≡ length file = cc in rw size (plan-size input program_highest longest_file file (same-file input ∙ m))
      by (refuses n) m s = absurd (gives-not-refuses count n s)

  -- it is the output
  pub output-file : (count : ℕ) → a ≡ Ok count → IsOutput input bytes count
  unfolding output_for written
  output-file count e = by (program_file input) refl (rw e at answered) (rw outcome at planned.left)
    where
      by : (o : Outcome (List ℕ)) → program_file input ≡ o → gives count ≡ giving length o → bytes ≡ after o (λ file. file) before → IsOutput input bytes count
      by (gives file) m s l = let size : count ≡ length file = cc in output input file bytes count (ap written m) (l ∙ ap (over file) blank) size (file-small count e)
      by (refuses n) m s l = absurd (gives-not-refuses count n s)

  -- and of a refusal its record is
  pub output-refused : (r : Refusal) (bytes' : List ℕ) (count : ℕ) → a ≡ Err r → bytes' ≡ over (refused_bytes (refusal_number r)) zeros → count ≡ length (refused_bytes (refusal_number r)) → IsOutput input bytes' count
  unfolding output_for written
  output-refused r bytes' count e b c =
      let n = refusal_number r in
      let o : program_file input ≡ refuses n = refused-giving length (program_file input) n (sym (rw e at answered)) in
      output input (refused_bytes n) bytes' count (ap written o) b c (rw (c, length-refused n) (omega arith))
