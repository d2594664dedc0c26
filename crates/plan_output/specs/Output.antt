-- 'The program reads a path on standard input, highest version 5, k up to 6, and writes the order file or one kind 7 record.'
-- M-102: 'The program's highest version becomes 6.'
use Rattle.std.specs.Prelude.{◌≡◌, List, ℕ, ◌≤◌, length, take, replicate}
use Rattle.base.specs.Outcome.{Outcome, gives, refuses, giving, over}
use Rattle.records.specs.Field.{bytes_of}
use Rattle.records.specs.Record.{record_bytes, refused_kind}
use Rattle.path.specs.Path.{read_path}
use Rattle.jobs.specs.Limit.{small_enough}
use Rattle.jobs.specs.Plan.{wanted_file}

-- the highest version that the program knows
abbrev pub program_highest : ℕ
program_highest = 6

-- 'refused: number 2 bytes'
unfoldable pub refused_bytes : (number : ℕ) → List ℕ
refused_bytes n = record_bytes refused_kind (bytes_of 2 n)

-- the order file, or one kind 7 record
unfoldable pub written : Outcome (List ℕ) → List ℕ
written (gives file) = file
written (refuses n) = refused_bytes n

-- the order file of the path that the program reads, or the refusal
abbrev pub program_file : (input : List ℕ) → Outcome (List ℕ)
program_file input = giving wanted_file (read_path input program_highest small_enough)

-- what the program writes for the bytes that it reads
unfoldable pub output_for : (input : List ℕ) → List ℕ
output_for input = written (program_file input)

-- the bytes of the longest order file
abbrev pub longest_file : ℕ
longest_file = 162

-- so many bytes that are 0
abbrev pub zeros : List ℕ
zeros = replicate longest_file 0

-- the output in the first of these bytes; the others are 0
pub record IsOutput (input bytes : List ℕ) (count : ℕ) : Type 0 where
  pub whole : bytes ≡ over (output_for input) zeros
  pub size : count ≡ length (output_for input)
  pub front : take count bytes ≡ output_for input
  pub within : count ≤ length bytes
