-- The tree: forks, stops and sets of exchanged forks. n = 2^k throughout.
use Rattle.std.specs.Prelude.{ℕ, ◌+◌, ◌*◌, ◌-◌, ◌/◌, ◌%◌, ◌^◌}

-- bit b of x
abbrev pub bit : ℕ → ℕ → ℕ
bit x b = x / 2 ^ b % 2

-- A set of exchanged forks is a number F: fork v is exchanged exactly if bit v of F is 1. Only bits 1 to n - 1 are forks.

-- 'fork v has forks or stops 2v (first side) and 2v+1 (second side) below it': s is 0 for the first side, 1 for the second
abbrev pub side : ℕ → ℕ → ℕ
side v s = 2 * v + s

-- 'a number of n or more there means the stop of that number less n'
abbrev pub stop_of : ℕ → ℕ → ℕ
stop_of k v = v - 2 ^ k

-- 'The fork above stop i at depth h, 0 ≤ h ≤ k−1, is 2^h + floor(i / 2^(k−h))'
abbrev pub fork_above : ℕ → ℕ → ℕ → ℕ
fork_above k i h = 2 ^ h + i / 2 ^ (k - h)
