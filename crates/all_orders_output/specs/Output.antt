-- 'For k up to 3, above that 5, found directly after the path's k, a program reads a path on standard input, highest version 6, and prints
-- each allowed order exactly once ..'
use Rattle.std.specs.Prelude.{◌≡◌, List, ℕ, ◌≤◌, leb, length, take, replicate}
use Rattle.base.specs.Refusal.{wrong_k}
use Rattle.base.specs.Outcome.{Outcome, gives, refuses, need, giving, over}
use Rattle.path.specs.Path.{Path, read_path}
use Rattle.all_orders_output.specs.Text.{all_orders, refusal_line}

-- the highest version that the program knows
abbrev pub program_highest : ℕ
program_highest = 6

-- the largest k
abbrev pub print_max_k : ℕ
print_max_k = 3

-- the program's own test of k
abbrev pub few_enough : ℕ → Outcome Unit
few_enough k = need (leb k print_max_k) wrong_k (gives tt)

-- the path that the program reads, or the refusal
abbrev pub program_path : (input : List ℕ) → Outcome Path
program_path input = read_path input program_highest few_enough

-- the lines of all orders, or that of the refusal
unfoldable pub printed : Outcome (List ℕ) → List ℕ
printed (gives text) = text
printed (refuses n) = refusal_line n

-- what the program prints for the bytes that it reads
unfoldable pub output_for : (input : List ℕ) → List ℕ
output_for input = printed (giving all_orders (program_path input))

-- the room for a text: 128 lines for k = 3, each with a total of 7 moves below 2^32, which has at most 11 digits, 8 stops of one digit after a
-- space each, and byte 10
abbrev pub longest_text : ℕ
longest_text = 3584

-- so many bytes that are 0
abbrev pub zeros : List ℕ
zeros = replicate longest_text 0

-- the output in the first of these bytes; the others are 0
pub record IsOutput (input bytes : List ℕ) (count : ℕ) : Type 0 where
  pub whole : bytes ≡ over (output_for input) zeros
  pub size : count ≡ length (output_for input)
  pub front : take count bytes ≡ output_for input
  pub within : count ≤ length bytes
