-- The fork string: 'bit v of the string is fork v, 1 for exchanged; byte v/8, low bit first; other bits 0'. A set of forks is a number
-- whose bit v is fork v, so the string is that number's bytes, least byte first.
use Rattle.std.specs.Prelude.{Bool, cond, ◌&&◌, List, ℕ, ◌+◌, ◌/◌, ◌%◌, ◌^◌, eqb, ltb, get_or, set}
use Rattle.std.specs.Int.Bits.{bit_or}
use Rattle.base.specs.Refusal.{wrong_forks}
use Rattle.base.specs.Outcome.{Outcome, gives, need}
use Rattle.records.specs.Field.{number_of, bytes_of}
use Rattle.tree.specs.Fork.{bit}
use Rattle.tree.specs.Neighbour.{lowest_fork, fork_state}

-- 'ceil(n/8)', the bytes of a string of n bits
abbrev pub byte_count : ℕ → ℕ
byte_count n = (n + 7) / 8

-- the string of the set F of forks of a tree with 2^k stops
abbrev pub bit_string : ℕ → ℕ → List ℕ
bit_string k F = bytes_of (byte_count (2 ^ k)) F

-- the set of forks that a string says
abbrev pub set_of_bits : List ℕ → ℕ
set_of_bits s = number_of s

-- bit v of a string: 'byte v/8, low bit first'
abbrev pub string_bit : List ℕ → ℕ → ℕ
string_bit s v = bit (get_or s (v / 8) 0) (v % 8)

-- no bit outside 1 to n - 1 is set: bit 0 is not, and no bit from n on
unfoldable pub only_forks : ℕ → ℕ → Bool
only_forks k F = eqb (F % 2) 0 && ltb F (2 ^ 2 ^ k)

-- a set of forks, judged: 'a fork bit outside 1 to n−1 set' is 12
unfoldable pub judge_forks : ℕ → ℕ → Outcome ℕ
judge_forks k F = need (only_forks k F) wrong_forks (gives F)

-- the string with bit v set
unfoldable pub raised : List ℕ → ℕ → List ℕ
raised s v = set s (v / 8) (bit_or (get_or s (v / 8) 0) (2 ^ (v % 8)))

-- the string with the bit of the lowest fork above places p - 1 and p set, if that fork is exchanged; b is the stop in p
unfoldable pub marked : ℕ → ℕ → ℕ → List ℕ → List ℕ
marked k p b s = cond (eqb (fork_state p b) 1) (raised s (lowest_fork k p b)) s
